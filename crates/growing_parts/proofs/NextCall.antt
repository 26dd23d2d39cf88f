-- A call as the next row leaves it.
use Rattle.std.proofs.Common.{ℕ, ◌≡◌, ◌≢◌, ◌↔◌, inl, inr, List, [], ◌∷◌, ◌++◌, Some, Bool, true, false, nat_eq}
use Rattle.std.proofs.Common.{eqb-true, length}
use Rattle.std.proofs.Common.{eq-eqb, ap, sym, ◌∙◌, subst, refl}
use Rattle.std.specs.List.{slice_get, Contains}
use Rattle.std.proofs.lemmas.Bool.{eqb-false}
use Rattle.std.proofs.lemmas.List.Elements.{Contains-append_left, Contains-push, Contains-push_cases}
use Rattle.std.proofs.lemmas.Option.{same_Some}
use Rattle.tag.specs.declared.actions.Action.{Action}
use Rattle.tag.specs.declared.actions.Returned.{Returned}
use Rattle.tag.specs.declared.numbers.OpId.{OpId}
use Rattle.tag.specs.Tags.{Tag}
use Rattle.tag.proofs.Lists.{Contains-slice_get, push_cases, slice_get-push_left, slice_get-push_last}
use Rattle.tag.proofs.SameTags.{same_op}
use Rattle.recorder.specs.declared.row.Row.{Row}
use Rattle.recorder.specs.declared.row.Row.TheVariants.{Invoke, Note, Respond}
use Rattle.recorder.specs.declared.part.Call.{Call}
use Rattle.recorder.specs.declared.part.Response.{Response}
use Rattle.recorder.specs.Histories.{MayFollow}
use Rattle.recorder.specs.Records.{IsRecorded}
use Rattle.growing_parts.proofs.Rows.{slice_get-back, Contains-back}

-- the call with the note, or the response, if it is of the call
noted : Bool → Tag → Call → Call
noted true tag call = record call { note = Some tag }
noted false tag call = call

answered : Bool → Response → Call → Call
answered true response call = record call { response = Some response }
answered false response call = call

-- the call after the row at the place
pub next_call : Row → ℕ → Call → Call
next_call (Invoke op client key action) place call = call
next_call (Note op tag) place call = noted (nat_eq call.op.0 op.0) tag call
next_call (Respond op returned) place call = answered (nat_eq call.op.0 op.0) (record { place = place; returned = returned }) call

-- two calls of one invocation
pub record IsOneCall (a b : Call) : Type 0 where
  pub number : b.op ≡ a.op
  pub client : b.client ≡ a.client
  pub action : b.action ≡ a.action
  pub invoked : b.invoked ≡ a.invoked

noted_one : (b : Bool) (tag : Tag) (call : Call) → IsOneCall call (noted b tag call)
unfolding noted
noted_one true tag call = record { number = refl; client = refl; action = refl; invoked = refl }
noted_one false tag call = record { number = refl; client = refl; action = refl; invoked = refl }

answered_one : (b : Bool) (response : Response) (call : Call) → IsOneCall call (answered b response call)
unfolding answered
answered_one true response call = record { number = refl; client = refl; action = refl; invoked = refl }
answered_one false response call = record { number = refl; client = refl; action = refl; invoked = refl }

pub one_call : (row : Row) (place : ℕ) (call : Call) → IsOneCall call (next_call row place call)
unfolding next_call
one_call (Invoke op client key action) place call = record { number = refl; client = refl; action = refl; invoked = refl }
one_call (Note op tag) place call = noted_one (nat_eq call.op.0 op.0) tag call
one_call (Respond op returned) place call = answered_one (nat_eq call.op.0 op.0) (record { place = place; returned = returned }) call

-- a row that begins a call leaves it
pub begin_leaves : (op : OpId) (client : ℕ) (key : List ℕ) (action : Action) (place : ℕ) (call : Call)
    → next_call (Invoke op client key action) place call ≡ call
unfolding next_call
begin_leaves op client key action place call = refl

-- a note leaves its response
noted_response : (b : Bool) (tag : Tag) (call : Call) → (noted b tag call).response ≡ call.response
unfolding noted
noted_response true tag call = refl
noted_response false tag call = refl

pub note_answers_none : (op : OpId) (tag : Tag) (place : ℕ) (call : Call) → (next_call (Note op tag) place call).response ≡ call.response
unfolding next_call
note_answers_none op tag place call = noted_response (nat_eq call.op.0 op.0) tag call

-- a row of another call leaves it
noted_other : (b : Bool) (tag : Tag) (call : Call) → b ≡ false → noted b tag call ≡ call
unfolding noted
noted_other true tag call e = absurd (cc)
noted_other false tag call e = refl

answered_other : (b : Bool) (response : Response) (call : Call) → b ≡ false → answered b response call ≡ call
unfolding answered
answered_other true response call e = absurd (cc)
answered_other false response call e = refl

answered_own : (b : Bool) (response : Response) (call : Call) → b ≡ true → (answered b response call).response ≡ Some response
unfolding answered
answered_own true response call e = refl
answered_own false response call e = absurd (cc)

test_false : (b : Bool) (x y : ℕ) → nat_eq x y ≡ b → x ≢ y → nat_eq x y ≡ false
test_false true x y e apart = absurd (apart (eqb-true x y e))
test_false false x y e apart = e

pub note_of_another : (op : OpId) (tag : Tag) (place : ℕ) (call : Call) → (call.op ≡ op → ⊥) → next_call (Note op tag) place call ≡ call
unfolding next_call
note_of_another op tag place call apart = noted_other (nat_eq call.op.0 op.0) tag call (test_false (nat_eq call.op.0 op.0) call.op.0
    op.0 refl (λ e. apart (same_op call.op op e)))

pub answer_of_another : (op : OpId) (returned : Returned) (place : ℕ) (call : Call) → (call.op ≡ op → ⊥)
    → next_call (Respond op returned) place call ≡ call
unfolding next_call
answer_of_another op returned place call apart = answered_other (nat_eq call.op.0 op.0) (record { place = place; returned = returned })
    call (test_false (nat_eq call.op.0 op.0) call.op.0 op.0 refl (λ e. apart (same_op call.op op e)))

pub answer_of_own : (op : OpId) (returned : Returned) (place : ℕ) (call : Call) → call.op ≡ op
    → (next_call (Respond op returned) place call).response ≡ Some (record { place = place; returned = returned })
unfolding next_call
answer_of_own op returned place call same = answered_own (nat_eq call.op.0 op.0) (record { place = place; returned = returned }) call
    (eq-eqb call.op.0 op.0 (ap (λ (o : OpId). o.0) same))

-- ---- what the rows say of it

module _ (rows : List Row) (row : Row) (op : OpId) where
  pub notes_same : ((tag : Tag) → row ≡ Note op tag → ⊥) → (tag : Tag) → Contains rows (Note op tag)
      ↔ Contains (rows ++ row ∷ []) (Note op tag)
  notes_same other tag = (
    λ h. Contains-append_left rows (row ∷ []) (Note op tag) h,
    λ h. Contains-back rows row (Note op tag) h (other tag),
  )

  pub answers_same : ((returned : Returned) → row ≡ Respond op returned → ⊥) → (place : ℕ) (returned : Returned)
      → (slice_get rows place ≡ Some (Respond op returned)) ↔ (slice_get (rows ++ row ∷ []) place ≡ Some (Respond op returned))
  answers_same other place returned = (
    λ at. slice_get-push_left rows row place (Respond op returned) at,
    λ at. slice_get-back rows row place (Respond op returned) at (other returned),
  )

module _ (rows : List Row) (key : List ℕ) (call : Call) (x : IsRecorded rows key call) where
  -- a row that is neither its note nor its response
  unchanged : (row : Row) → ((tag : Tag) → row ≡ Note call.op tag → ⊥) → ((returned : Returned) → row ≡ Respond call.op returned → ⊥)
      → IsRecorded (rows ++ row ∷ []) key call
  unchanged row notes answers = record {
    begun = slice_get-push_left rows row call.invoked (Invoke call.op call.client key call.action) x.begun;
    noted = λ tag.
        let same = notes_same rows row call.op notes tag in (λ e. same.0 ((x.noted tag).0 e), λ h. (x.noted tag).1 (same.1 h));
    answered = λ place returned.
        let same = answers_same rows row call.op answers place returned in (
          λ e. same.0 ((x.answered place returned).0 e),
          λ at. (x.answered place returned).1 (same.1 at),
        );
  }

  noted_next : (op : OpId) (tag : Tag) → MayFollow rows (Note op tag) → (b : Bool) → nat_eq call.op.0 op.0 ≡ b
      → IsRecorded (rows ++ Note op tag ∷ []) key (noted b tag call)
  unfolding noted
  noted_next op tag may true e =
      let same : call.op ≡ op = same_op call.op op (eqb-true call.op.0 op.0 e) in
      let answers = answers_same rows (Note op tag) call.op (λ r n. cc) in
      record {
        begun = slice_get-push_left rows (Note op tag) call.invoked (Invoke call.op call.client key call.action) x.begun;
        noted = λ t. (
          λ h.
              let is : tag ≡ t = same_Some tag t h in
              let row : ◌≡◌ {A = Row} (Note op tag) (Note call.op t) = cc in
              subst (Contains (rows ++ Note op tag ∷ [])) row (Contains-push rows (Note op tag)),
          λ h. elim (Contains-push_cases rows (Note op tag) (Note call.op t) h) [
            | inl w ↦ absurd (may.1 (t, subst (λ (o : OpId). Contains rows (Note o t)) same w))
            | inr w ↦ (let is : tag ≡ t = cc in ap Some is)
          ],
        );
        answered = λ place returned.
            let both = answers place returned in (
              λ h. both.0 ((x.answered place returned).0 h),
              λ at. (x.answered place returned).1 (both.1 at),
            );
      }
  noted_next op tag may false e = unchanged (Note op tag) (λ t n. absurd (eqb-false call.op.0 op.0 e (let same : op ≡ call.op = cc in ap (λ
      (o : OpId). o.0) (sym same)))) (λ r n. cc)

  answered_next : (op : OpId) (returned : Returned) → MayFollow rows (Respond op returned) → (b : Bool) → nat_eq call.op.0 op.0 ≡ b
      → IsRecorded (rows ++ Respond op returned ∷ []) key (answered b (record { place = length rows; returned = returned }) call)
  unfolding answered
  answered_next op returned may true e =
      let same : call.op ≡ op = same_op call.op op (eqb-true call.op.0 op.0 e) in
      let own : ◌≡◌ {A = Row} (Respond op returned) (Respond call.op returned) = cc in
      let notes = notes_same rows (Respond op returned) call.op (λ t n. cc) in
      record {
        begun = slice_get-push_left rows (Respond op returned) call.invoked (Invoke call.op call.client key call.action) x.begun;
        noted = λ tag. (λ h. (notes tag).0 ((x.noted tag).0 h), λ h. (x.noted tag).1 ((notes tag).1 h));
        answered = λ place r. (
          λ h.
              let one : ◌≡◌ {A = Response} (record { place = length rows; returned = returned }) (record { place = place; returned = r }) =
              same_Some _ _ h in
              let here : length rows ≡ place = ap (λ (a : Response). a.place) one in
              let is : returned ≡ r = ap (λ (a : Response). a.returned) one in
              subst (λ (k : ℕ). slice_get (rows ++ Respond op returned ∷ []) k ≡ Some (Respond call.op r)) here (slice_get-push_last rows
              (Respond op returned) ∙ ap Some (own ∙ ap (λ (a : Returned). Respond call.op a) is)),
          λ at. elim (push_cases rows (Respond op returned) place (Respond call.op r) at) [
            | inl w ↦ absurd (may.2.unanswered (
              r,
              subst (λ (o : OpId). Contains rows (Respond o r)) same (Contains-slice_get rows place
                  (Respond call.op r) w),
            ))
            | inr w ↦
                let is : returned ≡ r = cc in
                let here : length rows ≡ place = sym w.0 in
                let one : ◌≡◌ {A = Response} (record { place = length rows; returned = returned }) (record {
                  place = place;
                  returned = r;
                }) = cc in
                ap Some one
          ],
        );
      }
  answered_next op returned may false e = unchanged (Respond op returned) (λ t n. cc) (λ r n. absurd (eqb-false call.op.0 op.0 e (let
      same : op ≡ call.op = cc in ap (λ (o : OpId). o.0) (sym same))))

  pub next_recorded : (row : Row) → MayFollow rows row → IsRecorded (rows ++ row ∷ []) key (next_call row (length rows) call)
  unfolding next_call
  next_recorded (Invoke op client other action) may = unchanged (Invoke op client other action) (λ t n. cc) (λ r n. cc)
  next_recorded (Note op tag) may = noted_next op tag may (nat_eq call.op.0 op.0) refl
  next_recorded (Respond op returned) may = answered_next op returned may (nat_eq call.op.0 op.0) refl
