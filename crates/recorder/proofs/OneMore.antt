-- What one row more changes for a call that it isn't about.
use Rattle.std.proofs.Common.{ℕ, ◌≡◌, ◌↔◌, List, [], ◌∷◌, ◌++◌, Option, Some}
use Rattle.std.specs.List.{Contains}
use Rattle.std.proofs.lemmas.List.Elements.{Contains-append_left}
use Rattle.tag.specs.declared.actions.Action.{Action}
use Rattle.tag.specs.declared.actions.Returned.{Returned}
use Rattle.tag.specs.declared.numbers.OpId.{OpId}
use Rattle.tag.specs.Tags.{Tag}
use Rattle.recorder.specs.declared.row.Row.{Row}
use Rattle.recorder.specs.declared.row.Row.TheVariants.{Invoke, Note, Respond}
use Rattle.recorder.specs.declared.record.CallState.{CallState}
use Rattle.recorder.specs.declared.row_table.Span.{Span}
use Rattle.recorder.specs.Histories.{HasResponse, IsPendingCall}
use Rattle.recorder.specs.States.{Describes, RespondsAt}
use Rattle.tag.proofs.Lists.{slice_get-push_left}
use Rattle.recorder.proofs.Lists.{Contains-back, slice_get-back}

-- the row is no note, no response, no invocation of the call
abbrev pub NotesAnother : Row → OpId → Type 0
NotesAnother row op = (tag : Tag) → row ≡ Note op tag → ⊥

abbrev pub AnswersAnother : Row → OpId → Type 0
AnswersAnother row op = (returned : Returned) → row ≡ Respond op returned → ⊥

abbrev pub BeginsAnother : Row → OpId → ℕ → Type 0
BeginsAnother row op client = (key : List ℕ) (action : Action) → row ≡ Invoke op client key action → ⊥

module _ (rows : List Row) (row : Row) (op : OpId) where
  pub HasResponse-push : HasResponse rows op → HasResponse (rows ++ row ∷ []) op
  HasResponse-push h = (h.0, Contains-append_left rows (row ∷ []) (Respond op h.0) h.1)

  pub HasResponse-back : AnswersAnother row op → HasResponse (rows ++ row ∷ []) op → HasResponse rows op
  HasResponse-back other h = (h.0, Contains-back rows row (Respond op h.0) h.1 (other h.0))

  -- a pending call stays pending unless the row answers it, and was pending unless the row begins it
  pub IsPendingCall-push : (client : ℕ) (action : Action) → AnswersAnother row op → IsPendingCall rows op client action → IsPendingCall (rows ++ row ∷ []) op client action
  IsPendingCall-push client action other p = record {
    key = p.key;
    invoked = Contains-append_left rows (row ∷ []) (Invoke op client p.key action) p.invoked;
    unanswered = λ h. p.unanswered (HasResponse-back other h);
  }

  pub IsPendingCall-back : (client : ℕ) (action : Action) → BeginsAnother row op client → IsPendingCall (rows ++ row ∷ []) op client action → IsPendingCall rows op client action
  IsPendingCall-back client action other p = record {
    key = p.key;
    invoked = Contains-back rows row (Invoke op client p.key action) p.invoked (other p.key action);
    unanswered = λ h. p.unanswered (HasResponse-push h);
  }

  -- its note and its response stay what they were
  pub noted_same : NotesAnother row op → (tag : Tag) → Contains rows (Note op tag) ↔ Contains (rows ++ row ∷ []) (Note op tag)
  noted_same other tag = (λ h. Contains-append_left rows (row ∷ []) (Note op tag) h, λ h. Contains-back rows row (Note op tag) h (other tag))

  pub answered_same : AnswersAnother row op → (place : ℕ) → RespondsAt rows op place ↔ RespondsAt (rows ++ row ∷ []) op place
  answered_same other place = (λ h. (h.0, slice_get-push_left rows row place (Respond op h.0) h.1), λ h. (h.0, slice_get-back rows row place (Respond op h.0) h.1 (other h.0)))

  -- and so does its state
  pub Describes-push : (state : CallState) → NotesAnother row op → AnswersAnother row op → Describes rows op state → Describes (rows ++ row ∷ []) op state
  Describes-push state notes answers d = record {
    key = d.key;
    action = d.action;
    kind = d.kind;
    invoked = slice_get-push_left rows row state.invoked (Invoke op state.client d.key d.action) d.invoked;
    noted = λ tag. let same = noted_same notes tag in (λ e. same.0 ((d.noted tag).0 e), λ h. (d.noted tag).1 (same.1 h));
    answered = λ place. let same = answered_same answers place in (λ e. same.0 ((d.answered place).0 e), λ h. (d.answered place).1 (same.1 h));
  }

  -- a state of its call after the row, with that note, that response and that value
  pub Describes-more : (state : CallState) (note : Option Tag) (response : Option ℕ) (value : Option Span) → Describes rows op state → ((tag : Tag) → (note ≡ Some tag) ↔ Contains (rows ++ row ∷ []) (Note op tag)) → ((place : ℕ) → (response ≡ Some place) ↔ RespondsAt (rows ++ row ∷ []) op place) → Describes (rows ++ row ∷ []) op (record state { note = note; response = response; value = value })
  Describes-more state note response value d noted answered = record {
    key = d.key;
    action = d.action;
    kind = d.kind;
    invoked = slice_get-push_left rows row state.invoked (Invoke op state.client d.key d.action) d.invoked;
    noted = noted;
    answered = answered;
  }
