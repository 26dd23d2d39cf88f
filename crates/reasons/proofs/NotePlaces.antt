-- A call's note stands at the place that is answered.
use Rattle.std.proofs.Common.{ℕ, zero, suc, ◌≡◌, ◌<◌, ◌-◌, inl, inr, List, [], ◌∷◌, Option, Some, None, true, take, drop, refl, sym, ◌∙◌, ap, arith, eqb-true}
use Rattle.std.specs.List.{slice_get, position_from}
use Rattle.std.proofs.lemmas.Bool.{eq-eqb, cases_lt}
use Rattle.std.proofs.lemmas.List.{take-take}
use Rattle.tag.specs.declared.numbers.OpId.{OpId}
use Rattle.tag.specs.Tags.{Tag}
use Rattle.tag.proofs.Lists.{place_of, Contains-slice_get, in_front, slice_get-take}
use Rattle.recorder.specs.declared.row.Row.{Row}
use Rattle.recorder.specs.declared.row.Row.TheVariants.{Invoke, Note, Respond}
use Rattle.recorder.specs.declared.part.Call.{Call}
use Rattle.recorder.specs.Histories.{IsWellFormed, is_invoke, call_count}
use Rattle.recorder.specs.Records.{IsRecorded}
use Rattle.reasons.specs.Notes.{is_note_of, note_place_from, note_place, IsNotePlace}
use Rattle.reasons.proofs.Positions.{slice_get-drop, passes_there, none_passes}

-- a row that passes is a note of the call
note_row : (op : OpId) (row : Row) → is_note_of op row ≡ true → (tag : Tag) × (row ≡ Note op tag)
note_row op (Invoke o client key action) e = absurd (cc)
note_row op (Note o tag) e =
    let number : o.0 ≡ op.0 = eqb-true o.0 op.0 e in
    let same : o ≡ op = ap (λ (n : ℕ). let p : OpId = record { 0 = n } in p) number in
    (tag, ap (λ (p : OpId). Note p tag) same)
note_row op (Respond o returned) e = absurd (cc)

-- fewer calls are begun before a row that begins one
count_below : (rows : List Row) (i : ℕ) (row : Row) → slice_get rows i ≡ Some row → is_invoke row ≡ true → call_count (take i rows) < call_count rows
count_below [] i row h b = absurd (cc)
count_below (r ∷ rows) zero row h b = let same : is_invoke r ≡ true = cc in rw same (omega arith)
count_below (r ∷ rows) (suc i) row h b = omega (arith, count_below rows i row h b)

module _ (rows : List Row) (key : List ℕ) (call : Call) (formed : IsWellFormed rows) (recorded : IsRecorded rows key call) where
  -- a call is noted after it is begun
  begun_first : (place : ℕ) (tag : Tag) → slice_get rows place ≡ Some (Note call.op tag) → call.invoked < place
  begun_first place tag at =
      let pending = (formed place (Note call.op tag) at).0 in
      let row : Row = Invoke call.op pending.0 pending.2.key pending.1 in
      let front = place_of (take place rows) row pending.2.invoked in
      let earlier = in_front rows place front.0 row front.1 in
      let number = (formed call.invoked (Invoke call.op call.client key call.action) recorded.begun).0 in
      let other = (formed front.0 row earlier.1).0 in
      elim (cases_lt call.invoked place) [
        | inl h ↦ h
        | inr h ↦
            let below : front.0 < call.invoked = omega (arith, earlier.0) in
            let less = count_below (take call.invoked rows) front.0 row (slice_get-take rows call.invoked front.0 below ∙ earlier.1) refl in
            let same = ap call_count (take-take front.0 call.invoked rows (omega arith)) in
            absurd (omega (arith, number, other, less, same))
      ]

  at_answer : (answer : Option ℕ) (tag : Tag) → call.note ≡ Some tag → position_from (is_note_of call.op) call.invoked (drop call.invoked rows) ≡ answer → IsNotePlace rows call answer
  at_answer None tag noted e =
      let there = place_of rows (Note call.op tag) ((recorded.noted tag).0 noted) in
      let after : call.invoked < there.0 = begun_first there.0 tag there.1 in
      let later : ℕ = there.0 - call.invoked in
      let at : slice_get (drop call.invoked rows) later ≡ Some (Note call.op tag) = slice_get-drop rows call.invoked later there.0 (omega arith) ∙ there.1 in
      absurd (none_passes (is_note_of call.op) call.invoked (drop call.invoked rows) e later (Note call.op tag) at (eq-eqb call.op.0 call.op.0 refl))
  at_answer (Some place) tag noted e =
      let found = passes_there (is_note_of call.op) call.invoked place (drop call.invoked rows) e in
      let row = note_row call.op found.value found.passes in
      let at : slice_get rows place ≡ Some (Note call.op row.0) = sym (slice_get-drop rows call.invoked found.later place found.place_is) ∙ (found.at ∙ ap Some row.1) in
      (row.0, (recorded.noted row.0).1 (Contains-slice_get rows place (Note call.op row.0) at), at)

  of_note : (note : Option Tag) → call.note ≡ note → IsNotePlace rows call (note_place_from rows call.invoked call.op note)
  of_note None e = e
  of_note (Some tag) e = at_answer (position_from (is_note_of call.op) call.invoked (drop call.invoked rows)) tag e refl

  pub its_place : IsNotePlace rows call (note_place rows call)
  its_place = of_note call.note refl
