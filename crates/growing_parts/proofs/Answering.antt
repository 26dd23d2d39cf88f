-- A row that answers a call of the key.
use Rattle.std.proofs.Common.{ℕ, ◌≡◌, ◌<◌, ◌≤◌, ◌⊎◌, inl, inr, List, [], ◌∷◌, ◌++◌, Some, None, length, length-append, ap}
use Rattle.std.proofs.Common.{sym, ◌∙◌}
use Rattle.std.proofs.Common.{subst, refl, arith}
use Rattle.std.specs.List.{slice_get, Contains}
use Rattle.std.proofs.lemmas.Option.{slice_get_within}
use Rattle.tag.specs.declared.actions.Action.{Action}
use Rattle.tag.specs.declared.actions.Action.TheVariants.{Read, Write}
use Rattle.tag.specs.declared.actions.Returned.{Returned}
use Rattle.tag.specs.declared.actions.Returned.TheVariants.{Value, Written}
use Rattle.tag.specs.declared.numbers.OpId.{OpId}
use Rattle.tag.proofs.Lists.{place_of, push_cases}
use Rattle.recorder.specs.declared.row.Row.{Row}
use Rattle.recorder.specs.declared.row.Row.TheVariants.{Invoke, Respond}
use Rattle.recorder.specs.declared.part.Call.{Call}
use Rattle.recorder.specs.Histories.{IsWellFormed, MayFollow, FitsAction}
use Rattle.recorder.proofs.Sequences.{same_call}
use Rattle.value_order.specs.Families.{IsAnsweredBy}
use Rattle.value_order.specs.Zones.{IsLastRow}
use Rattle.kept_families.specs.Continued.{AreOpenIn}
use Rattle.key_monitor.specs.Judged.{AnswersCall, GoOn}
use Rattle.growing_parts.specs.NextRows.{HasAnsweredCall, IsAnsweredWith}
use Rattle.growing_parts.specs.PartsWithout.{IsPartWithout, StandsBy}
use Rattle.growing_parts.proofs.Beginning.{begun_by}
use Rattle.growing_parts.proofs.GoingOn.{go_on, open_forth}
use Rattle.growing_parts.proofs.NextCall.{IsOneCall, next_call, one_call, answer_of_own}
use Rattle.growing_parts.proofs.NextParts.{changed, changed_part, now_there, was_of}
use Rattle.growing_parts.proofs.Rows.{agree_before, begun_alike, begun_once, formed_next}
use Rattle.growing_parts.proofs.Standing.{sequence}

-- an answer that fits the action
answered_with : (call : Call) (place : ℕ) (action : Action) (returned : Returned) → call.action ≡ action
    → call.response ≡ Some (record { place = place; returned = returned }) → FitsAction action returned → IsAnsweredWith call returned
answered_with call place Read (Value None) asks responds fits = record {
  response = record { place = place; returned = Value None };
  reads = asks;
  responds = responds;
  answers = refl;
}
answered_with call place Read (Value (Some value)) asks responds fits = record {
  response = record { place = place; returned = Value (Some value) };
  reads = asks;
  responds = responds;
  answers = refl;
}
answered_with call place Read Written asks responds fits = absurd fits
answered_with call place (Write value) (Value answer) asks responds fits = absurd fits
answered_with call place (Write value) Written asks responds fits = (value, asks)

module _ (rows : List Row) (formed : IsWellFormed rows) (key gone : List ℕ) (before : List Call) (is : IsPartWithout rows key gone before)
    (op : OpId) (client : ℕ) (action : Action) (returned : Returned) (may : MayFollow rows (Respond op returned)) (begun : Contains rows
    (Invoke op client key action)) (stays : Contains gone op.0 → ⊥) where
  abbrev row : Row
  row = Respond op returned

  none_begun : (o : OpId) (c : ℕ) (a : Action) → row ≡ Invoke o c key a → ⊥
  none_begun o c a e = cc

  abbrev calls : List Call
  calls = changed rows row may key gone before is none_begun

  new_part : IsPartWithout (rows ++ row ∷ []) key gone calls
  new_part = changed_part rows row may key gone before is none_begun

  -- the call before and after the answer
  begins : (k : ℕ) × (slice_get rows k ≡ Some (Invoke op client key action))
  begins = place_of rows (Invoke op client key action) begun

  found : (call : Call) × Contains before call × (call.invoked ≡ begins.0)
  found = is.all begins.0 op client action begins.1 stays

  abbrev old_call : Call
  old_call = found.0

  abbrev new_call : Call
  new_call = next_call row (length rows) old_call

  one : IsOneCall old_call new_call
  one = one_call row (length rows) old_call

  old_row : ◌≡◌ {A = Row} (Invoke old_call.op old_call.client key old_call.action) (Invoke op client key action)
  old_row = cc ((is.each found.0 found.1).begun, begins.1, ap (slice_get rows) found.2)

  old_number : old_call.op ≡ op
  old_number = (let same = old_row in cc)

  old_client : old_call.client ≡ client
  old_client = (let same = old_row in cc)

  old_action : old_call.action ≡ action
  old_action = (let same = old_row in cc)

  new_there : Contains calls new_call
  new_there = now_there rows row may key gone before is none_begun old_call found.1

  responds : new_call.response ≡ Some (record { place = length rows; returned = returned })
  responds = answer_of_own op returned (length rows) old_call old_number

  fits : FitsAction action returned
  fits =
      let k = place_of rows (Invoke op may.0 may.2.key may.1) may.2.invoked in
      let same = begun_alike rows formed k.0 begins.0 op may.0 client may.2.key key may.1 action k.1 begins.1 in
      let actions : may.1 ≡ action = cc in
      subst (λ (a : Action). FitsAction a returned) actions may.3

  last : IsLastRow calls (length rows)
  last call response h e =
      let at = ((new_part.each call h).answered response.place response.returned).0 e in
      let within = slice_get_within (rows ++ row ∷ []) response.place _ at in
      omega (arith, within, length-append rows (row ∷ []))

  module _ (by : ℕ) (stands : StandsBy before by) (less : by < length rows) where
    all_begun : (call : Call) → Contains calls call → call.invoked ≤ by
    all_begun call h =
        let w = was_of rows row may key gone before is none_begun call h in
        let low = stands.begun w.was w.there in
        let same = (one_call row (length rows) w.was).invoked in
        let at = ap (λ (c : Call). c.invoked) w.now in
        omega arith

    -- what was answered by the new row is the call, or was answered by the other
    only : (other : Call) → Contains calls other → IsAnsweredBy (length rows) other → (other ≡ new_call) ⊎ IsAnsweredBy by other
    only other h a =
        let r = a.response in
        let at = ((new_part.each other h).answered r.place r.returned).0 a.responds in
        elim (push_cases rows row r.place (Respond other.op r.returned) at) [
          | inl early ↦
              let w = was_of rows row may key gone before is none_begun other h in
              let number : other.op ≡ w.was.op = sym (ap (λ (c : Call). c.op) w.now) ∙ (one_call row (length rows) w.was).number in
              let responded = ((is.each w.was w.there).answered r.place r.returned).1 (subst (λ (o : OpId). slice_get rows r.place ≡ Some
              (Respond o r.returned)) number early) in
              inr (record { response = r; responds = a.responds; by = stands.last w.was r w.there responded })
          | inr here ↦
              let number : op ≡ other.op = (let e = here.1 in cc) in
              inl (same_call calls (sequence (rows ++ row ∷ []) (formed_next rows row formed may) key gone calls new_part) other new_call
              h new_there (ap (λ (o : OpId). o.0) (sym number ∙ (sym old_number ∙ sym one.number))))
        ]

    new_on : GoOn by (length rows) before calls
    new_on = go_on by rows (rows ++ row ∷ []) key (agree_before by rows row less) gone gone before calls (formed_next rows row formed may)
        is new_part stands (λ n h. h) (λ call there counts. is.none call there) (length rows) (omega arith) (begun_by rows row key gone
        calls new_part)

    new_left : AreOpenIn by before calls
    new_left read o = inr (open_forth by rows (rows ++ row ∷ []) key (agree_before by rows row less) gone gone before calls (formed_next
        rows row formed may) is new_part stands (λ n h. h) read o (is.none read o.recorded))

    new_answers : AnswersCall by (length rows) before calls new_call
    new_answers = record {
      goes = new_on;
      only = record {
        recorded = new_there;
        response = record { place = length rows; returned = returned };
        responds = responds;
        at = refl;
        after = less;
        began = all_begun new_call new_there;
        others = only;
      };
      begun = all_begun;
      last = last;
    }

  pub call_ends : HasAnsweredCall rows key gone before op client action returned
  call_ends = record {
    after = calls;
    was = old_call;
    call = new_call;
    part = new_part;
    there = found.1;
    same = sym one.number;
    number = one.number ∙ old_number;
    whose = one.client ∙ old_client;
    asked = old_action;
    asks = one.action ∙ old_action;
    begun = λ place at. one.invoked ∙ (found.2 ∙ begun_once rows formed begins.0 place op client client key key action action begins.1 at);
    responds = responds;
    fits = answered_with new_call (length rows) action returned (one.action ∙ old_action) responds fits;
    answers = new_answers;
    opens = new_left;
  }
