-- What is kept of the pending calls, by a row more.
use Rattle.std.proofs.Common.{ℕ, ◌≡◌, ◌≢◌, inl, inr, List, [], ◌∷◌, ◌++◌, Some, None, Bool, true, false, cond, length, ap, sym, ◌∙◌}
use Rattle.std.proofs.Common.{subst, arith}
use Rattle.std.proofs.lemmas.Bool.{cases_eq}
use Rattle.std.proofs.lemmas.Grind.{common_steps}
use Rattle.std.proofs.lemmas.Option.{none-some, same_Some}
use Rattle.std.specs.Cmp.{nat_cmp_total}
use Rattle.std.specs.FinMap as finite
use Rattle.std.specs.List.{slice_get}
use Rattle.std.specs.Ordering.{nat_cmp, eq_by_cmp}
use Rattle.tag.specs.declared.actions.Action.{Action}
use Rattle.tag.specs.declared.numbers.OpId.{OpId}
use Rattle.tag.proofs.Lists.{slice_get-push_left, slice_get-push_last}
use Rattle.tag.proofs.SameTags.{same_op}
use Rattle.recorder.specs.declared.row.Row.{Row}
use Rattle.recorder.specs.declared.row.Row.TheVariants.{Invoke}
use Rattle.open_calls.specs.declared.open_call.OpenCall.{OpenCall}
use Rattle.open_calls.specs.Open.{Open, begun_call, call_at, with_answer, with_begun, with_note}
use Rattle.record_monitor.specs.declared.taken.Begun.{Begun}
use Rattle.record_monitor.specs.Taken.{AreBegun, IsBegun}

same_test : (k : ℕ) → eq_by_cmp nat_cmp k k ≡ true
same_test k = grind (arith, common_steps)

apart_test : (q k : ℕ) → q ≢ k → eq_by_cmp nat_cmp q k ≡ false
apart_test q k apart = grind (arith, common_steps)

module _ {X : Type 0} (m : finite.FinMap nat_cmp X) (k : ℕ) where
  inserted_here : (v : X) → finite.get (finite.insert m k v) k ≡ Some v
  inserted_here v = finite.get-insert nat_cmp_total m k v k ∙ ap (λ b. cond b (Some v) (finite.get m k)) (same_test k)

  inserted_other : (v : X) (q : ℕ) → q ≢ k → finite.get (finite.insert m k v) q ≡ finite.get m q
  inserted_other v q apart = finite.get-insert nat_cmp_total m k v q ∙ ap (λ b. cond b (Some v) (finite.get m q)) (apart_test q k apart)

  removed_here : finite.get (finite.remove m k) k ≡ None
  removed_here = finite.get-remove nat_cmp_total m k k ∙ ap (λ b. cond b None (finite.get m k)) (same_test k)

  removed_other : (q : ℕ) → q ≢ k → finite.get (finite.remove m k) q ≡ finite.get m q
  removed_other q apart = finite.get-remove nat_cmp_total m k q ∙ ap (λ b. cond b None (finite.get m q)) (apart_test q k apart)

pub begun_on : (rows : List Row) (row : Row) (keys later : List (List ℕ)) → ((n : ℕ) (k : List ℕ) → slice_get keys n ≡ Some k
    → slice_get later n ≡ Some k) → (op : OpId) (begun : Begun) → IsBegun rows keys op begun → IsBegun (rows ++ row ∷ []) later op begun
begun_on rows row keys later still op begun b = record {
  client = b.client;
  key = b.key;
  action = b.action;
  begins = slice_get-push_left rows row begun.place (Invoke op b.client b.key b.action) b.begins;
  whose = b.whose;
  key_is = still begun.key b.key b.key_is;
}

-- the call that the row begins
pub begun_now : (rows : List Row) (later : List (List ℕ)) (op : OpId) (client : ℕ) (key : List ℕ) (action : Action) (begun : Begun)
    → begun.place ≡ length rows → client ≡ begun.client → slice_get later begun.key ≡ Some key
    → IsBegun (rows ++ Invoke op client key action ∷ []) later op begun
begun_now rows later op client key action begun at whose here = record {
  client = client;
  key = key;
  action = action;
  begins = subst (λ (p : ℕ). slice_get (rows ++ Invoke op client key action ∷ []) p ≡ Some (Invoke op client key action)) (sym at)
      (slice_get-push_last rows (Invoke op client key action));
  whose = whose;
  key_is = here;
}

module _ (rows : List Row) (row : Row) (keys later : List (List ℕ)) (calls new : Open Begun)
    (still : (n : ℕ) (k : List ℕ) → slice_get keys n ≡ Some k → slice_get later n ≡ Some k) (a : AreBegun rows keys calls) where
  pub begun_more : (op : OpId) (client : ℕ) (is_write : Bool) (begun : Begun) → op.0 ≡ calls.begun
      → new ≡ with_begun calls (begun_call client is_write begun) → IsBegun (rows ++ row ∷ []) later op begun
      → AreBegun (rows ++ row ∷ []) later new
  begun_more op client is_write begun next is own o call at =
      let there = subst (λ (c : Open Begun). call_at c o.0 ≡ Some call) is at in
      elim (cases_eq o.0 calls.begun) [
        | inl same ↦
            let one : begun_call client is_write begun ≡ call = same_Some (begun_call client is_write begun) call
            (sym (ap (finite.get (with_begun calls (begun_call client is_write begun)).calls) same
            ∙ inserted_here calls.calls calls.begun (begun_call client is_write begun)) ∙ there) in
            subst (λ (c : OpenCall Begun). IsBegun (rows ++ row ∷ []) later o c.payload) one
            (subst (λ (n : OpId). IsBegun (rows ++ row ∷ []) later n begun) (same_op op o (next ∙ sym same)) own)
        | inr apart ↦ begun_on rows row keys later still o call.payload
            (a o call (sym (inserted_other calls.calls calls.begun (begun_call client is_write begun) o.0 apart) ∙ there))
      ]

  pub begun_less : (op : OpId) → new ≡ with_answer calls op.0 → AreBegun (rows ++ row ∷ []) later new
  begun_less op is o call at =
      let there = subst (λ (c : Open Begun). call_at c o.0 ≡ Some call) is at in
      elim (cases_eq o.0 op.0) [
        | inl same ↦ absurd (none-some call (sym (ap (finite.get (with_answer calls op.0).calls) same ∙ removed_here calls.calls op.0)
            ∙ there))
        | inr apart ↦ begun_on rows row keys later still o call.payload (a o call (sym (removed_other calls.calls op.0 o.0 apart) ∙ there))
      ]

  pub begun_noted : (op : OpId) (noted : OpenCall Begun) → call_at calls op.0 ≡ Some noted → new ≡ with_note calls op.0 noted
      → AreBegun (rows ++ row ∷ []) later new
  begun_noted op noted was is o call at =
      let there = subst (λ (c : Open Begun). call_at c o.0 ≡ Some call) is at in
      elim (cases_eq o.0 op.0) [
        | inl same ↦
            let one : record noted { is_noted = true } ≡ call = same_Some (record noted { is_noted = true }) call
            (sym (ap (finite.get (with_note calls op.0 noted).calls) same
            ∙ inserted_here calls.calls op.0 (record noted { is_noted = true })) ∙ there) in
            subst (λ (c : OpenCall Begun). IsBegun (rows ++ row ∷ []) later o c.payload) one
            (begun_on rows row keys later still o noted.payload (a o noted (ap (call_at calls) same ∙ was)))
        | inr apart ↦ begun_on rows row keys later still o call.payload
            (a o call (sym (inserted_other calls.calls op.0 (record noted { is_noted = true }) o.0 apart) ∙ there))
      ]
