use Rattle.std.proofs.Common.{ℕ, ◌≡◌, length, subst, arith}
use Rattle.std.proofs.lemmas.Option.{slice_get-get_or}
use Rattle.value_order.specs.SortKeys.{AreNumbersOf}
use Rattle.value_order.proofs.SortLists.{numbers_none, numbers_more}
use Rattle.value_order.proofs.keys.numbers.Goals as goal

pub loop-i-init : goal.loop-i-init
loop-i-init c = numbers_none c.args.part.now c.args.keys.now c.in_ok-ops.ops.items c.in_ok-ops.ensures.items

pub loop-i-preserved : goal.loop-i-preserved
loop-i-preserved c = rw c.in_ok-push.ensures.items (numbers_more c.args.part.now c.args.keys.now c.loop-i.i c.loop-i.ops.items _ c.op.result (slice_get-get_or c.args.keys.now c.loop-i.i _ c.loop-i-test.true) c.op.ensures c.loop-i.invariant)

pub returns : goal.returns
returns c =
    let all : c.loop-i.i ≡ length c.args.keys.now = omega (arith, c.loop-i-test.false, c.loop-i.auto.i-end) in
    subst (λ (n : ℕ). AreNumbersOf c.args.part.now c.args.keys.now n c.loop-i.ops.items) all c.loop-i.invariant
