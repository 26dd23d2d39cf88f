use Rattle.std.proofs.Common.{◌≡◌, sym, ◌∙◌, ap, subst, get_or, arith, below_more}
use Rattle.std.proofs.lemmas.Bool.{false≢true}
use Rattle.std.proofs.lemmas.Option.{same_Some, slice_get_within, slice_get-get_or}
use Rattle.recorder.specs.declared.part.Call.{Call}
use Rattle.value_order.specs.Firsts.{AreTaken}
use Rattle.value_order.proofs.KnownFirsts.{first_value}
use Rattle.value_order.proofs.Slots.{IsPassed, slot_at, stands_at, all_passed, stops, passed_more}
use Rattle.value_order.proofs.firsts.probe_places.Goals as goal
use Rattle.value_order.proofs.firsts.probe_places.Goals.{else-slot-mark-via-then-slot-mark+else-is_written, else-slot-mark-via-else-slot-mark}

pub returns-then-slot-eq0 : goal.returns-then-slot-eq0
returns-then-slot-eq0 c =
    let slots = c.args.slots.now in
    let place = c.place_of-place in
    let slot = get_or slots place.result (record { mark = 0; index = 0 }) in
    let here = slot_at slots c.args.mark c.loop-steps.steps place.result (record { mark = 0; index = 0 }) place.ensures.place place.ensures.within in (
      record {
        steps = c.loop-steps.steps;
        within = c.loop-steps-test.true;
        is = place.ensures.place;
        slot = slot;
        here = slice_get-get_or slots place.result (record { mark = 0; index = 0 }) place.ensures.within;
        unused = c.if-slot-eq0.true;
        before = c.loop-steps.invariant.taken;
      },
      stops slots c.args.part.now c.args.mark c.args.value.now c.loop-steps.steps c.loop-steps.invariant.passed slot here c.if-slot-eq0.true,
    )

pub is_written-requires : goal.is_written-requires
is_written-requires c =
    let slots = c.args.slots.now in
    let place = c.place_of-place in
    let slot = get_or slots place.result (record { mark = 0; index = 0 }) in
    let known = c.requires.known place.result slot (slice_get-get_or slots place.result (record { mark = 0; index = 0 }) place.ensures.within) c.if-slot-eq0.false in
    slice_get_within c.args.part.now slot.index known.1.write known.1.at

pub returns-then-is_written : goal.returns-then-is_written
returns-then-is_written c =
    let slots = c.args.slots.now in
    let place = c.place_of-place in
    let slot = get_or slots place.result (record { mark = 0; index = 0 }) in
    let known = c.requires.known place.result slot (slice_get-get_or slots place.result (record { mark = 0; index = 0 }) place.ensures.within) c.if-slot-eq0.false in
    let here = slot_at slots c.args.mark c.loop-steps.steps place.result (record { mark = 0; index = 0 }) place.ensures.place place.ensures.within in
    let w = c.is_written.ensures in (
      first_value c.args.part.now known.0 c.args.value.now slot.index known.1 (w.0, w.1, w.2.0 c.if-is_written.true),
      stands_at slots c.args.mark c.loop-steps.steps slot c.loop-steps-test.true here c.if-slot-mark.true c.if-slot-eq0.false c.loop-steps.invariant.taken,
    )

pub loop-steps-preserved : goal.loop-steps-preserved
loop-steps-preserved c =
    let slots = c.args.slots.now in
    let part = c.args.part.now in
    let place = c.place_of-place in
    let slot = get_or slots place.result (record { mark = 0; index = 0 }) in
    let here = slot_at slots c.args.mark c.loop-steps.steps place.result (record { mark = 0; index = 0 }) place.ensures.place place.ensures.within in
    record {
      taken = below_more _ _ c.loop-steps.invariant.taken (slot, here, c.if-slot-eq0.false);
      passed = passed_more slots part c.args.mark c.args.value.now c.loop-steps.steps c.loop-steps.invariant.passed slot here (λ same first. elim c.else-slot-mark.branch [
        | else-slot-mark-via-then-slot-mark+else-is_written w ↦
            let is = w.is_written.ensures in
            let call : first.write ≡ is.0 = same_Some first.write is.0 (sym first.at ∙ is.1) in
            false≢true (sym w.if-is_written.false ∙ is.2.1 (ap (λ (c : Call). c.action) (sym call) ∙ first.writes))
        | else-slot-mark-via-else-slot-mark w ↦ w.if-slot-mark.false same
      ]);
    }

pub returns : goal.returns
returns c =
    let n : c.loop-steps.steps ≡ 16 = omega (arith, c.loop-steps-test.false, c.loop-steps.auto.steps-end) in (
      subst (AreTaken c.args.slots.now c.args.mark) n c.loop-steps.invariant.taken,
      all_passed c.args.slots.now c.args.part.now c.args.mark c.args.value.now (subst (IsPassed c.args.slots.now c.args.part.now c.args.mark c.args.value.now) n c.loop-steps.invariant.passed),
    )
