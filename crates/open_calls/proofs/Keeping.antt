-- What is kept stays that of the rows, with one row more.
use Rattle.std.proofs.Common.{ℕ, ◌≡◌, ◌≢◌, inl, inr, List, [], ◌∷◌, ◌++◌, true, Option, Some, None, IsSome, ap, sym, subst, ◌∙◌, refl, arith}
use Rattle.std.specs.FinMap as finite
use Rattle.std.specs.Ordering.{nat_cmp}
use Rattle.std.proofs.lemmas.Bool.{cases_eq}
use Rattle.std.proofs.lemmas.List.Elements.{Contains-push}
use Rattle.std.proofs.lemmas.Option.{same_Some, none-some}
use Rattle.tag.specs.declared.actions.Action.{Action}
use Rattle.tag.specs.declared.actions.Returned.{Returned}
use Rattle.tag.specs.declared.numbers.OpId.{OpId}
use Rattle.tag.specs.Tags.{Tag}
use Rattle.tag.proofs.SameTags.{same_op}
use Rattle.recorder.specs.declared.row.Row.{Row}
use Rattle.recorder.specs.declared.row.Row.TheVariants.{Invoke, Note, Respond}
use Rattle.recorder.specs.Histories.{IsPendingOp, IsWellFormed}
use Rattle.recorder.specs.States.{is_write}
use Rattle.open_calls.specs.declared.open_call.OpenCall.{OpenCall}
use Rattle.open_calls.specs.Open.{Open, call_at, begun_call, with_answer, with_begun, with_note}
use Rattle.open_calls.specs.Rows.{IsKept, KeepsOpen}
use Rattle.open_calls.proofs.Fresh.{not_answered, not_noted}
use Rattle.open_calls.specs.Numbered.{Sets}
use Rattle.open_calls.proofs.Maps.{sets-insert, sets-remove}
use Rattle.open_calls.proofs.OneRow.{count_push, kept_more, noted_back, pending_more, pending_back, answered_back}

pub is_there : {X : Type 0} (o : Option X) (x : X) → o ≡ Some x → IsSome o
is_there (Some y) x e = refl
is_there None x e = absurd (none-some x e)

pub there_is : {X : Type 0} (o : Option X) → IsSome o → (x : X) × (o ≡ Some x)
there_is (Some x) e = (x, refl)
there_is None e = absurd cc

-- the rows with one more keep what a change leaves: of the row's call, and of the others
module _ {T : Type 0} (rows : List Row) (row : Row) (op : OpId) (old new : Open T) (value : Option (OpenCall T)) (keeps : KeepsOpen rows old) (sets : Sets (call_at old) op.0 value (call_at new)) where
  each_by : ((call : OpenCall T) → value ≡ Some call → IsKept (rows ++ row ∷ []) op call) → ((o : OpId) (call : OpenCall T) → (o.0 ≢ op.0) → IsKept rows o call → IsKept (rows ++ row ∷ []) o call)
      → (o : OpId) (call : OpenCall T) → call_at new o.0 ≡ Some call → IsKept (rows ++ row ∷ []) o call
  each_by mine others o call at = elim (cases_eq o.0 op.0) [
    | inl same ↦ subst (λ (x : OpId). IsKept (rows ++ row ∷ []) x call) (sym (same_op o op same)) (mine call (sym sets.here ∙ (ap (call_at new) (sym same) ∙ at)))
    | inr apart ↦ others o call apart (keeps.each o call (sym (sets.others o.0 apart) ∙ at))
  ]

  all_by : (IsPendingOp (rows ++ row ∷ []) op → IsSome value) → ((o : OpId) → (o.0 ≢ op.0) → IsPendingOp (rows ++ row ∷ []) o → IsPendingOp rows o)
      → (o : OpId) → IsPendingOp (rows ++ row ∷ []) o → IsSome (call_at new o.0)
  all_by mine others o pending = elim (cases_eq o.0 op.0) [
    | inl same ↦ subst IsSome (sym sets.here ∙ ap (call_at new) (sym same)) (mine (subst (IsPendingOp (rows ++ row ∷ [])) (same_op o op same) pending))
    | inr apart ↦ subst IsSome (sym (sets.others o.0 apart)) (keeps.all o (others o apart pending))
  ]

-- a call of another number is another call
apart_op : (a b : OpId) → b.0 ≢ a.0 → a ≡ b → ⊥
apart_op a b apart e = apart (ap (λ (x : OpId). x.0) (sym e))

module _ {T : Type 0} (rows : List Row) (old : Open T) (keeps : KeepsOpen rows old) where
  -- a call began
  module _ (formed : IsWellFormed rows) (op : OpId) (client : ℕ) (key : List ℕ) (action : Action) (payload : T) (next : op.0 ≡ old.begun) where
    begun_kept : (call : OpenCall T) → Some (begun_call client (is_write action) payload) ≡ Some call → IsKept (rows ++ Invoke op client key action ∷ []) op call
    begun_kept call e = subst (IsKept (rows ++ Invoke op client key action ∷ []) op) (same_Some (begun_call client (is_write action) payload) call e) (record {
      action = action;
      pending = record {
        key = key;
        invoked = Contains-push rows (Invoke op client key action);
        unanswered = λ h. not_answered rows formed op (next ∙ keeps.begun) (answered_back rows (Invoke op client key action) op (λ r e. cc) h);
      };
      kind = refl;
      noted = (λ e. absurd cc, λ h. absurd (not_noted rows formed op (next ∙ keeps.begun) (noted_back rows (Invoke op client key action) op (λ t e. cc) h)));
    })

    pub keeps_begun : KeepsOpen (rows ++ Invoke op client key action ∷ []) (with_begun old (begun_call client (is_write action) payload))
    keeps_begun =
        let call : OpenCall T = begun_call client (is_write action) payload in
        let new : Open T = with_begun old call in
        let put : Sets (call_at old) old.begun (Some call) (call_at new) = sets-insert old.calls old.begun call in
        let sets : Sets (call_at old) op.0 (Some call) (call_at new) = subst (λ (n : ℕ). Sets (call_at old) n (Some call) (call_at new)) (sym next) put in
        record {
          begun = omega (arith, count_push rows (Invoke op client key action), keeps.begun);
          each = each_by rows (Invoke op client key action) op old new (Some call) keeps sets begun_kept (λ o c apart k. kept_more rows (Invoke op client key action) o c (λ t e. cc) (λ r e. cc) k);
          all = all_by rows (Invoke op client key action) op old new (Some call) keeps sets (λ p. refl)
              (λ o apart p. (p.0, p.1, pending_back rows (Invoke op client key action) o p.0 p.1 (λ c k a e. apart_op op o apart cc) p.2));
        }

  -- a call has a note
  module _ (op : OpId) (tag : Tag) (call : OpenCall T) (is : call_at old op.0 ≡ Some call) where
    note_kept : (c : OpenCall T) → Some (record call { is_noted = true }) ≡ Some c → IsKept (rows ++ Note op tag ∷ []) op c
    note_kept c e =
        let k = keeps.each op call is in
        let noted : OpenCall T = record call { is_noted = true } in
        subst (IsKept (rows ++ Note op tag ∷ []) op) (same_Some noted c e) (record {
          action = k.action;
          pending = pending_more rows (Note op tag) op call.client k.action (λ r e. cc) k.pending;
          kind = k.kind;
          noted = (λ e. (tag, Contains-push rows (Note op tag)), λ h. refl);
        })

    pub keeps_noted : KeepsOpen (rows ++ Note op tag ∷ []) (with_note old op.0 call)
    keeps_noted =
        let noted : OpenCall T = record call { is_noted = true } in
        let new : Open T = with_note old op.0 call in
        let sets : Sets (call_at old) op.0 (Some noted) (call_at new) = sets-insert old.calls op.0 noted in
        record {
          begun = omega (arith, count_push rows (Note op tag), keeps.begun);
          each = each_by rows (Note op tag) op old new (Some noted) keeps sets note_kept (λ o c apart k. kept_more rows (Note op tag) o c (λ t e. apart_op op o apart cc) (λ r e. cc) k);
          all = all_by rows (Note op tag) op old new (Some noted) keeps sets (λ p. refl)
              (λ o apart p. (p.0, p.1, pending_back rows (Note op tag) o p.0 p.1 (λ c k a e. cc) p.2));
        }

  -- a call is answered
  pub keeps_answered : (op : OpId) (returned : Returned) → KeepsOpen (rows ++ Respond op returned ∷ []) (with_answer old op.0)
  keeps_answered op returned =
      let new : Open T = with_answer old op.0 in
      let sets : Sets (call_at old) op.0 None (call_at new) = sets-remove old.calls op.0 in
      record {
        begun = omega (arith, count_push rows (Respond op returned), keeps.begun);
        each = each_by rows (Respond op returned) op old new None keeps sets (λ c e. absurd (none-some c e)) (λ o c apart k. kept_more rows (Respond op returned) o c (λ t e. cc) (λ r e. apart_op op o apart cc) k);
        all = all_by rows (Respond op returned) op old new None keeps sets (λ p. absurd (p.2.unanswered (returned, Contains-push rows (Respond op returned))))
            (λ o apart p. (p.0, p.1, pending_back rows (Respond op returned) o p.0 p.1 (λ c k a e. cc) p.2));
      }

-- no row, no call
pub keeps_nothing : {T : Type 0} → KeepsOpen {T = T} [] (record { begun = 0; calls = finite.empty })
keeps_nothing = record {
  begun = refl;
  each = λ op call at. absurd (none-some call (sym (finite.get-empty nat_cmp op.0) ∙ at));
  all = λ op p. absurd (omega (arith, p.2.invoked.1));
}
