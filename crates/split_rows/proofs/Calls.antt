-- What is kept of the pending calls, by a row more.
use Rattle.std.proofs.Common.{ℕ, ◌≡◌, ◌≢◌, inl, inr, List, Some, None, Bool, true, false, cond, ap, sym, ◌∙◌}
use Rattle.std.proofs.Common.{subst, arith}
use Rattle.std.proofs.lemmas.Bool.{cases_eq}
use Rattle.std.proofs.lemmas.Grind.{common_steps}
use Rattle.std.proofs.lemmas.Option.{none-some, same_Some}
use Rattle.std.specs.Cmp.{nat_cmp_total}
use Rattle.std.specs.FinMap as finite
use Rattle.std.specs.Ordering.{nat_cmp, eq_by_cmp}
use Rattle.tag.specs.declared.numbers.OpId.{OpId}
use Rattle.tag.proofs.SameTags.{same_op}
use Rattle.recorder.specs.declared.row.Row.{Row}
use Rattle.open_calls.specs.declared.open_call.OpenCall.{OpenCall}
use Rattle.open_calls.specs.Open.{Open, begun_call, call_at, with_answer, with_begun, with_note}
use Rattle.split_rows.specs.declared.moved.Moved.{Moved}
use Rattle.split_rows.specs.Pieces.{IsCallOf, IsKeyOf}
use Rattle.split_rows.specs.Taken.{AreMoved, moved_in}

same_test : (k : ℕ) → eq_by_cmp nat_cmp k k ≡ true
same_test k = grind (arith, common_steps)

apart_test : (q k : ℕ) → q ≢ k → eq_by_cmp nat_cmp q k ≡ false
apart_test q k apart = grind (arith, common_steps)

module _ {X : Type 0} (m : finite.FinMap nat_cmp X) (k : ℕ) where
  inserted_here : (v : X) → finite.get (finite.insert m k v) k ≡ Some v
  inserted_here v = finite.get-insert nat_cmp_total m k v k ∙ ap (λ b. cond b (Some v) (finite.get m k)) (same_test k)

  inserted_other : (v : X) (q : ℕ) → q ≢ k → finite.get (finite.insert m k v) q ≡ finite.get m q
  inserted_other v q apart = finite.get-insert nat_cmp_total m k v q ∙ ap (λ b. cond b (Some v) (finite.get m q)) (apart_test q k apart)

  removed_here : finite.get (finite.remove m k) k ≡ None
  removed_here = finite.get-remove nat_cmp_total m k k ∙ ap (λ b. cond b None (finite.get m k)) (same_test k)

  removed_other : (q : ℕ) → q ≢ k → finite.get (finite.remove m k) q ≡ finite.get m q
  removed_other q apart = finite.get-remove nat_cmp_total m k q ∙ ap (λ b. cond b None (finite.get m q)) (apart_test q k apart)

-- where the call goes is kept
abbrev pub IsMoved : ℕ → List Row → List (List ℕ) → (OpId → OpId) → OpId → Moved → Type 0
IsMoved parts rows keys number op moved = IsCallOf rows (IsKeyOf parts keys moved.piece) op × (moved.op ≡ number op)

-- a note leaves where the call goes
pub noted_moved : (calls new : Open Moved) (op : OpId) (call : OpenCall Moved) → new ≡ with_note calls op.0 call
    → moved_in (call_at new op.0) ≡ Some call.payload
noted_moved calls new op call is = ap (λ (o : Open Moved). moved_in (call_at o op.0)) is
    ∙ ap moved_in (inserted_here calls.calls op.0 (record call { is_noted = true }))

module _ (parts : ℕ) (rows after : List Row) (keys later : List (List ℕ)) (number next : OpId → OpId) (calls new : Open Moved)
    (on : (op : OpId) (moved : Moved) → IsMoved parts rows keys number op moved → IsMoved parts after later next op moved)
    (are : AreMoved parts rows keys number calls) where
  pub moved_begun : (op : OpId) (client : ℕ) (is_write : Bool) (moved : Moved) → op.0 ≡ calls.begun
      → new ≡ with_begun calls (begun_call client is_write moved) → IsMoved parts after later next op moved
      → AreMoved parts after later next new
  moved_begun op client is_write moved turn is own o call at =
      let there = subst (λ (c : Open Moved). call_at c o.0 ≡ Some call) is at in
      elim (cases_eq o.0 calls.begun) [
        | inl same ↦
            let one : begun_call client is_write moved ≡ call = same_Some (begun_call client is_write moved) call
            (sym (ap (finite.get (with_begun calls (begun_call client is_write moved)).calls) same
            ∙ inserted_here calls.calls calls.begun (begun_call client is_write moved)) ∙ there) in
            subst (λ (c : OpenCall Moved). IsMoved parts after later next o c.payload) one
            (subst (λ (n : OpId). IsMoved parts after later next n moved) (same_op op o (turn ∙ sym same)) own)
        | inr apart ↦ on o call.payload
            (are o call (sym (inserted_other calls.calls calls.begun (begun_call client is_write moved) o.0 apart) ∙ there))
      ]

  pub moved_answered : (op : OpId) → new ≡ with_answer calls op.0 → AreMoved parts after later next new
  moved_answered op is o call at =
      let there = subst (λ (c : Open Moved). call_at c o.0 ≡ Some call) is at in
      elim (cases_eq o.0 op.0) [
        | inl same ↦ absurd (none-some call (sym (ap (finite.get (with_answer calls op.0).calls) same ∙ removed_here calls.calls op.0)
            ∙ there))
        | inr apart ↦ on o call.payload (are o call (sym (removed_other calls.calls op.0 o.0 apart) ∙ there))
      ]

  pub moved_noted : (op : OpId) (noted : OpenCall Moved) → call_at calls op.0 ≡ Some noted → new ≡ with_note calls op.0 noted
      → AreMoved parts after later next new
  moved_noted op noted was is o call at =
      let there = subst (λ (c : Open Moved). call_at c o.0 ≡ Some call) is at in
      elim (cases_eq o.0 op.0) [
        | inl same ↦
            let one : record noted { is_noted = true } ≡ call = same_Some (record noted { is_noted = true }) call
            (sym (ap (finite.get (with_note calls op.0 noted).calls) same
            ∙ inserted_here calls.calls op.0 (record noted { is_noted = true })) ∙ there) in
            subst (λ (c : OpenCall Moved). IsMoved parts after later next o c.payload) one
            (on o noted.payload (are o noted (ap (call_at calls) same ∙ was)))
        | inr apart ↦ on o call.payload
            (are o call (sym (inserted_other calls.calls op.0 (record noted { is_noted = true }) o.0 apart) ∙ there))
      ]
