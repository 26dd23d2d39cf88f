use Rattle.std.proofs.Common.{◌≡◌, Some, List, length, get_or, subst, arith}
use Rattle.std.specs.List.{slice_get}
use Rattle.std.proofs.lemmas.Option.{slice_get-get_or}
use Rattle.key_index.specs.declared.slots.Slot.{Slot}
use Rattle.key_index.specs.Placed.{StillStand}
use Rattle.key_index.proofs.Moving.{grows_on, placed_still, all_moved, one_moved}
use Rattle.key_index.proofs.Standing.{written_back}
use Rattle.key_index.proofs.placing.enlarged.Goals as goal

pub returns-in_err-move_slot-clause-still : goal.returns-in_err-move_slot-clause-still
returns-in_err-move_slot-clause-still c =
    let old = c.args.others.now in
    let new = c.move_slot.new.others in
    let keys = c.args.keys.now in
    let grows = grows_on old c.loop-slot.others new keys c.loop-slot.invariant.grows c.move_slot.ensures.grows in
    placed_still c.args.slots.now old new keys c.requires grows

pub returns-clause-still : goal.returns-clause-still
returns-clause-still c =
    placed_still c.args.slots.now c.args.others.now c.loop-slot.others c.args.keys.now c.requires c.loop-slot.invariant.grows

pub returns-clause-ok : goal.returns-clause-ok
returns-clause-ok c =
    let slots = c.args.slots.now in
    let all : c.loop-slot.slot-index ≡ length slots = omega (arith, c.loop-slot-test.false, c.loop-slot.auto.slot-index-end) in
    all_moved slots c.loop-slot.made.items c.args.others.now c.loop-slot.others c.args.keys.now c.loop-slot.slot-index
    all c.requires c.loop-slot.invariant

pub loop-slot-preserved : goal.loop-slot-preserved
loop-slot-preserved c =
    let slots = c.args.slots.now in
    let made = c.loop-slot.made.items in
    let new = c.move_slot.new.slots in
    let index = c.loop-slot.slot-index in
    let default : Slot = record { mark = 0; number = 0 } in
    let slot = get_or slots index default in
    let here : slice_get slots index ≡ Some slot = slice_get-get_or slots index default (omega (arith, c.loop-slot-test.true)) in
    let still = subst (λ (before : List Slot). StillStand before new) c.deref_mut.ensures.value c.move_slot.ensures.kept in
    let all : c.loop-slot.made.len ≡ length new = omega (arith, c.loop-slot.made.ok.0, c.deref_mut.ensures.len, c.move_slot.auto.slots) in
    let others = c.loop-slot.others in
    let grown = c.move_slot.new.others in
    let before = c.loop-slot.invariant in
    let m = c.move_slot.ensures in
    let moved = c.in_ok-move_slot.ensures.ok in
    let next = one_moved slots made new c.args.others.now others grown c.args.keys.now index slot before here m.grows still moved in
    rw (written_back made new c.loop-slot.made.len all) next
