use Rattle.std.proofs.Common.{ℕ, ◌≡◌, length, subst, arith}
use Rattle.std.proofs.lemmas.Option.{slice_get-get_or}
use Rattle.value_order.specs.SortKeys.{AreSortKeys}
use Rattle.value_order.proofs.SortLists.{keys_none, keys_same, keys_more}
use Rattle.value_order.proofs.keys.sort_keys.Goals as goal
use Rattle.value_order.proofs.keys.sort_keys.Goals.{in-Some+in_ok-push, in_default}

pub loop-i-init : goal.loop-i-init
loop-i-init c = keys_none c.args.zones.now c.args.sources.now c.new-keys.result.items c.new-keys.ensures.items

pub loop-i-preserved : goal.loop-i-preserved
loop-i-preserved c =
    let at = slice_get-get_or c.args.sources.now c.loop-i.i _ c.loop-i-test.true in
    elim c.match-sort_key.branch [
      | in-Some+in_ok-push w ↦ rw (w.keys-is, w.in_ok-push.ensures.items) (keys_more c.args.zones.now c.args.sources.now c.loop-i.i _ at c.loop-i.keys.items c.loop-i.invariant w.in-Some.key w.in-Some.ensures)
      | in_default w ↦ rw w.keys-is (keys_same c.args.zones.now c.args.sources.now c.loop-i.i _ at c.loop-i.keys.items c.loop-i.invariant w.in_default.ensures)
    ]

pub returns : goal.returns
returns c =
    let all : c.loop-i.i ≡ length c.args.sources.now = omega (arith, c.loop-i-test.false, c.loop-i.auto.i-end) in
    subst (λ (n : ℕ). AreSortKeys c.args.zones.now c.args.sources.now n c.loop-i.keys.items) all c.loop-i.invariant
