-- What the steps answer, by the rows.
use Rattle.std.proofs.Common.{ℕ, ◌≡◌, ◌↔◌, List, Bool, true, false, not, Option, Some, None, IsSome, IfNone, IfSome, IsTrue, is_some, ap, sym, subst, ◌∙◌, refl}
use Rattle.std.proofs.lemmas.Option.{same_Some, none-some}
use Rattle.tag.specs.declared.actions.Action.{Action}
use Rattle.tag.specs.declared.actions.Action.TheVariants.{Read, Write}
use Rattle.tag.specs.declared.actions.Returned.{Returned}
use Rattle.tag.specs.declared.actions.Returned.TheVariants.{Value, Written}
use Rattle.tag.specs.declared.numbers.OpId.{OpId}
use Rattle.tag.specs.Tags.{Tag}
use Rattle.recorder.specs.declared.row.Row.{Row}
use Rattle.recorder.specs.declared.row.Row.TheVariants.{Invoke, Note, Respond}
use Rattle.recorder.specs.Histories.{FitsAction, IsBusy, IsPendingCall, IsPendingOp, IsWellFormed, MayFollow}
use Rattle.recorder.specs.States.{is_write}
use Rattle.recorder.proofs.Callers.{caller_found}
use Rattle.open_calls.specs.declared.open_call.OpenCall.{OpenCall}
use Rattle.open_calls.specs.declared.refusal.CallRefusal.{CallRefusal}
use Rattle.open_calls.specs.declared.refusal.CallRefusal.TheVariants.{OutOfTurn, ClientBusy, NotPending, WrongKind, NoteTwice, Memory}
use Rattle.open_calls.specs.Open.{Open, call_at, HasCallOf}
use Rattle.open_calls.specs.Rows.{IsRefusedAfter, KeepsOpen}
use Rattle.open_calls.specs.Steps.{IsAnswerRefused, IsBeginRefused, IsNoteRefused, MayBeAnswered, MayBeNoted, MayBegin, is_written}
use Rattle.open_calls.proofs.Keeping.{is_there, there_is}
use Rattle.open_calls.proofs.Views.{Found, found_one, is_found}

-- an answer is of a call's kind exactly if both are a write's, or neither
pub fits_by : (action : Action) (returned : Returned) → is_write action ≡ is_written returned → FitsAction action returned
fits_by Read (Value value) e = tt
fits_by Read Written e = absurd cc
fits_by (Write text) (Value value) e = absurd cc
fits_by (Write text) Written e = tt

pub fits_back : (action : Action) (returned : Returned) → FitsAction action returned → is_write action ≡ is_written returned
fits_back Read (Value value) h = refl
fits_back Read Written h = absurd h
fits_back (Write text) (Value value) h = absurd h
fits_back (Write text) Written h = refl

module _ {T : Type 0} (rows : List Row) (state : Open T) (keeps : KeepsOpen rows state) where
  -- ---- which clients are busy
  pub busy_from : (client : ℕ) → HasCallOf state client → IsBusy rows client
  busy_from client h =
      let op : OpId = record { 0 = h.0 } in
      let k = keeps.each op h.1 h.2 in
      (op, k.action, subst (λ (c : ℕ). IsPendingCall rows op c k.action) h.3 k.pending)

  pub busy_to : IsWellFormed rows → (client : ℕ) → IsBusy rows client → HasCallOf state client
  busy_to formed client b =
      let t = there_is (call_at state b.0.0) (keeps.all b.0 (client, b.1, b.2)) in
      let k = keeps.each b.0 t.0 t.1 in
      let mine = caller_found rows formed b.0 t.0.client k.pending.key k.action k.pending.invoked in
      let theirs = caller_found rows formed b.0 client b.2.key b.1 b.2.invoked in
      (b.0.0, t.0, t.1, same_Some t.0.client client (sym mine ∙ theirs))

  -- ---- which calls are pending
  pub pending_from : (op : OpId) → IsSome (call_at state op.0) → IsPendingOp rows op
  pending_from op h =
      let t = there_is (call_at state op.0) h in
      let k = keeps.each op t.0 t.1 in
      (t.0.client, k.action, k.pending)

  not_pending : (op : OpId) → call_at state op.0 ≡ None → IsPendingOp rows op → ⊥
  not_pending op none p = let t = there_is (call_at state op.0) (keeps.all op p) in none-some t.0 (sym none ∙ t.1)

  -- ---- a call that begins
  pub may_begin : IsWellFormed rows → (op : OpId) (client : ℕ) (key : List ℕ) (action : Action) → MayBegin state op.0 client → MayFollow rows (Invoke op client key action)
  may_begin formed op client key action may = (may.next ∙ keeps.begun, λ b. may.idle (busy_to formed client b))

  pub begin_refused : (op : OpId) (client : ℕ) (key : List ℕ) (action : Action) (refusal : CallRefusal) → IsBeginRefused state op.0 client refusal → IsRefusedAfter rows (Invoke op client key action) refusal
  begin_refused op client key action OutOfTurn h = λ e. h (e ∙ sym keeps.begun)
  begin_refused op client key action ClientBusy h = (h.0 ∙ keeps.begun, busy_from client h.1)
  begin_refused op client key action NotPending h = absurd h
  begin_refused op client key action WrongKind h = absurd h
  begin_refused op client key action NoteTwice h = absurd h
  begin_refused op client key action Memory h = absurd h

  -- ---- a note
  pub may_note : (op : OpId) (tag : Tag) (call : OpenCall T) → MayBeNoted state op.0 call → MayFollow rows (Note op tag)
  may_note op tag call may =
      let k = keeps.each op call may.is in
      (pending_from op (is_there (call_at state op.0) call may.is), λ h. absurd (let e : false ≡ true = sym may.first ∙ k.noted.1 h in cc))

  pub note_refused : (op : OpId) (tag : Tag) (refusal : CallRefusal) → IsNoteRefused state op.0 refusal → IsRefusedAfter rows (Note op tag) refusal
  note_refused op tag OutOfTurn h = absurd h
  note_refused op tag ClientBusy h = absurd h
  note_refused op tag NotPending h = not_pending op h
  note_refused op tag WrongKind h = absurd h
  note_refused op tag NoteTwice h = (pending_from op (is_there (call_at state op.0) h.0 h.1), (keeps.each op h.0 h.1).noted.0 h.2)
  note_refused op tag Memory h = absurd h

  -- ---- an answer
  pub may_answer : (op : OpId) (returned : Returned) (call : OpenCall T) → MayBeAnswered state op.0 (is_written returned) call → MayFollow rows (Respond op returned)
  may_answer op returned call may =
      let k = keeps.each op call may.is in
      (call.client, k.action, k.pending, fits_by k.action returned (sym k.kind ∙ may.kind))

  pub answer_refused : (op : OpId) (returned : Returned) (refusal : CallRefusal) → IsAnswerRefused state op.0 (is_written returned) refusal → IsRefusedAfter rows (Respond op returned) refusal
  answer_refused op returned OutOfTurn h = absurd h
  answer_refused op returned ClientBusy h = absurd h
  answer_refused op returned NotPending h = not_pending op h
  answer_refused op returned WrongKind h =
      let k = keeps.each op h.0 h.1 in
      (h.0.client, k.action, k.pending, λ fits. h.2 (k.kind ∙ fits_back k.action returned fits))
  answer_refused op returned NoteTwice h = absurd h
  answer_refused op returned Memory h = absurd h

-- ---- kinds, as the code tests them
pub written_kind : (action : Action) (value : Option (List ℕ)) (b : Bool) → b ≡ is_some value → IfNone value (action ≡ Read) → IfSome value (λ v. action ≡ Write v) → b ≡ is_write action
written_kind action None b is none some = is ∙ sym (ap is_write none)
written_kind action (Some v) b is none some = is ∙ sym (ap is_write some)

pub answered_kind : (returned : Returned) (value : Option (Option (List ℕ))) (b : Bool) → is_some value ≡ not b → IfNone value (returned ≡ Written) → IfSome value (λ v. returned ≡ Value v) → b ≡ is_written returned
answered_kind returned None true is none some = sym (ap is_written none)
answered_kind returned None false is none some = absurd cc
answered_kind returned (Some v) true is none some = absurd cc
answered_kind returned (Some v) false is none some = sym (ap is_written some)

-- ---- tests, by the rows
module _ {T : Type 0} (rows : List Row) (state : Open T) (keeps : KeepsOpen rows state) where
  pub pending_test : (op : OpId) (b : Bool) → b ≡ is_some (call_at state op.0) → IsTrue b ↔ IsPendingOp rows op
  pending_test op b is = (λ t. pending_from rows state keeps op (sym is ∙ t), λ p. is ∙ keeps.all op p)

  pub busy_test : IsWellFormed rows → (client : ℕ) (r : Option OpId) → Found state client r → (b : Bool) → b ≡ is_some r → IsTrue b ↔ IsBusy rows client
  busy_test formed client r found b is = (λ t. busy_from rows state keeps client (found_one state client r found (sym is ∙ t)), λ p. is ∙ is_found state client r found (busy_to rows state keeps formed client p))
