use Rattle.std.proofs.Common.{ℕ, ◌≡◌, ◌<◌, length, subst, arith}
use Rattle.tag.proofs.Lists.{get_at}
use Rattle.value_order.specs.Ended.{AreEndKeys}
use Rattle.value_order.proofs.StaleTables.{ends_none, ends_same, ends_more}
use Rattle.value_order.proofs.ended.end_keys.Goals as goal
use Rattle.value_order.proofs.ended.end_keys.Goals.{in-Some+in_ok-push, in_default}

pub loop-i-init : goal.loop-i-init
loop-i-init c = ends_none c.args.part.now c.new-keys.result.items c.new-keys.ensures.items

pub loop-i-preserved : goal.loop-i-preserved
loop-i-preserved c =
    let part = c.args.part.now in
    let inside : c.loop-i.i < length part = omega (arith, c.loop-i-test.true, c.len-i-end.ensures.count) in
    let call = get_at part c.loop-i.i inside in
    elim c.match-end_key.branch [
      | in-Some+in_ok-push w ↦ rw (w.keys-is, w.in_ok-push.ensures.items) (ends_more part c.loop-i.i call.0 call.1 c.loop-i.keys.items c.loop-i.invariant w.in-Some.key w.in-Some.ensures.0 w.in-Some.ensures.1)
      | in_default w ↦ rw w.keys-is (ends_same part c.loop-i.i call.0 call.1 c.loop-i.keys.items c.loop-i.invariant w.in_default.ensures)
    ]

pub returns : goal.returns
returns c =
    let all : c.loop-i.i ≡ length c.args.part.now = omega (arith, c.loop-i-test.false, c.loop-i.auto.i-end, c.len-i-end.ensures.count) in
    subst (λ (n : ℕ). AreEndKeys c.args.part.now n c.loop-i.keys.items) all c.loop-i.invariant
