use Rattle.std.proofs.Common.{◌≤◌, length, sym, ap, ◌∙◌, arith}
use Rattle.std.proofs.lemmas.Bool.{false≢true}
use Rattle.std.proofs.lemmas.Option.{none-some, same_Some, slice_get_past}
use Rattle.key_index.specs.declared.slots.Slot.{Slot}
use Rattle.key_index.specs.Slots.{place_of}
use Rattle.key_index.proofs.Searching.{slot_at, stops, passed_more}
use Rattle.key_index.proofs.slots.standing.Goals as goal
use Rattle.key_index.proofs.slots.standing.Goals.{else-slot-mark-via-then-slot-mark+else-is_at}
use Rattle.key_index.proofs.slots.standing.Goals.{else-slot-mark-via-else-slot-mark}

pub returns-in_err-slot : goal.returns-in_err-slot
returns-in_err-slot c =
    let slots = c.args.slots.now in
    let steps = c.loop-steps.steps in
    let past_result : length slots ≤ c.place_of.result = omega (arith, c.in_err-slot.ensures.lookup) in
    let past = rw c.place_of.ensures at past_result in
    rw c.from_residual.ensures (stops slots c.args.keys.now c.args.mark c.args.text.now steps c.loop-steps.invariant (λ taken.
    none-some taken.0 (sym (slice_get_past slots (place_of c.args.mark steps (length slots)) past) ∙ taken.1)))

pub returns-then-slot : goal.returns-then-slot
returns-then-slot c =
    let slots = c.args.slots.now in
    let slot = c.in_ok-slot.slot.now in
    let found = c.in_ok-slot.ensures.lookup in
    let here = slot_at slots c.args.mark c.loop-steps.steps c.place_of.result slot c.place_of.ensures found.0 found.1 in
    stops slots c.args.keys.now c.args.mark c.args.text.now c.loop-steps.steps c.loop-steps.invariant (λ taken.
    taken.2 (ap (λ (s : Slot). s.number) (same_Some taken.0 slot (sym taken.1 ∙ here)) ∙ c.if-slot.true))

pub loop-steps-preserved : goal.loop-steps-preserved
loop-steps-preserved c =
    let found = c.in_ok-slot.ensures.lookup in
    passed_more c.args.slots.now c.args.keys.now c.args.mark c.args.text.now c.loop-steps.steps c.loop-steps.invariant c.in_ok-slot.slot.now
    (slot_at c.args.slots.now c.args.mark c.loop-steps.steps c.place_of.result c.in_ok-slot.slot.now c.place_of.ensures found.0 found.1)
    (λ same at. elim c.else-slot-mark.branch [
      | else-slot-mark-via-then-slot-mark+else-is_at w ↦ false≢true (sym w.if-is_at.false ∙ w.is_at.ensures.1 at)
      | else-slot-mark-via-else-slot-mark w ↦ w.if-slot-mark.false same
    ])
