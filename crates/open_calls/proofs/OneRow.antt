-- What one row more changes for a call that it isn't about.
use Rattle.std.proofs.Common.{ℕ, ◌≡◌, ◌+◌, inl, inr, List, [], ◌∷◌, ◌++◌, cond, arith}
use Rattle.std.specs.List.{Contains}
use Rattle.std.proofs.lemmas.List.Elements.{Contains-append_left, Contains-push_cases}
use Rattle.tag.specs.declared.actions.Action.{Action}
use Rattle.tag.specs.declared.actions.Returned.{Returned}
use Rattle.tag.specs.declared.numbers.OpId.{OpId}
use Rattle.tag.specs.Tags.{Tag}
use Rattle.recorder.specs.declared.row.Row.{Row}
use Rattle.recorder.specs.declared.row.Row.TheVariants.{Invoke, Note, Respond}
use Rattle.recorder.specs.Histories.{is_invoke, call_count, HasNote, HasResponse, IsPendingCall}
use Rattle.open_calls.specs.declared.open_call.OpenCall.{OpenCall}
use Rattle.open_calls.specs.Rows.{IsKept}

-- how many calls the rows begin, with one row more
pub count_push : (rows : List Row) (row : Row) → call_count (rows ++ row ∷ []) ≡ call_count rows + cond (is_invoke row) 1 0
count_push [] row = omega arith
count_push (r ∷ rows) row = omega (arith, count_push rows row)

-- the row is no note, no response, no invocation of the call
abbrev pub NotesAnother : Row → OpId → Type 0
NotesAnother row op = (tag : Tag) → row ≡ Note op tag → ⊥

abbrev pub AnswersAnother : Row → OpId → Type 0
AnswersAnother row op = (returned : Returned) → row ≡ Respond op returned → ⊥

abbrev pub BeginsAnother : Row → OpId → Type 0
BeginsAnother row op = (client : ℕ) (key : List ℕ) (action : Action) → row ≡ Invoke op client key action → ⊥

module _ (rows : List Row) (row : Row) (op : OpId) where
  back : (other : Row) → Contains (rows ++ row ∷ []) other → (row ≡ other → ⊥) → Contains rows other
  back other h apart = elim (Contains-push_cases rows row other h) [ inl w ↦ w | inr w ↦ absurd (apart w) ]

  pub noted_more : HasNote rows op → HasNote (rows ++ row ∷ []) op
  noted_more h = (h.0, Contains-append_left rows (row ∷ []) (Note op h.0) h.1)

  pub noted_back : NotesAnother row op → HasNote (rows ++ row ∷ []) op → HasNote rows op
  noted_back other h = (h.0, back (Note op h.0) h.1 (other h.0))

  pub answered_more : HasResponse rows op → HasResponse (rows ++ row ∷ []) op
  answered_more h = (h.0, Contains-append_left rows (row ∷ []) (Respond op h.0) h.1)

  pub answered_back : AnswersAnother row op → HasResponse (rows ++ row ∷ []) op → HasResponse rows op
  answered_back other h = (h.0, back (Respond op h.0) h.1 (other h.0))

  -- a pending call stays pending unless the row answers it, and was pending unless the row begins it
  pub pending_more : (client : ℕ) (action : Action) → AnswersAnother row op → IsPendingCall rows op client action → IsPendingCall (rows ++ row ∷ []) op client action
  pending_more client action other p = record {
    key = p.key;
    invoked = Contains-append_left rows (row ∷ []) (Invoke op client p.key action) p.invoked;
    unanswered = λ h. p.unanswered (answered_back other h);
  }

  pub pending_back : (client : ℕ) (action : Action) → BeginsAnother row op → IsPendingCall (rows ++ row ∷ []) op client action → IsPendingCall rows op client action
  pending_back client action other p = record {
    key = p.key;
    invoked = back (Invoke op client p.key action) p.invoked (other client p.key action);
    unanswered = λ h. p.unanswered (answered_more h);
  }

  -- what is kept of it stays so
  pub kept_more : {T : Type 0} (call : OpenCall T) → NotesAnother row op → AnswersAnother row op → IsKept rows op call → IsKept (rows ++ row ∷ []) op call
  kept_more call notes answers k = record {
    action = k.action;
    pending = pending_more call.client k.action answers k.pending;
    kind = k.kind;
    noted = (λ e. noted_more (k.noted.0 e), λ h. k.noted.1 (noted_back notes h));
  }
