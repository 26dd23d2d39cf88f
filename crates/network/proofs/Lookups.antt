-- What is found in a map by number after an insertion or a removal.
use Rattle.std.proofs.Common.{◌≡◌, ◌≢◌, ◌⊎◌, inl, inr, ℕ, Bool, true, false, Option, Some, None, cond, ap, sym, ◌∙◌, refl}
use Rattle.std.specs.Ordering.{nat_cmp, eq_by_cmp}
use Rattle.std.proofs.lemmas.Bool.{ne_eqb}
use Rattle.std.specs.Cmp.{nat_cmp_total, unsigned_tied}
use Rattle.std.specs.FinMap as finite
use Rattle.tag.proofs.Orderings.{same_number, other_number}

module _ {X : Type 0} where
  -- what a map has after an insertion is what was inserted, or was there
  inserted_by : (q k : ℕ) (v x : X) (o : Option X) (b : Bool) → eq_by_cmp nat_cmp q k ≡ b → cond b (Some v) o ≡ Some x → ((q ≡ k) × (v ≡ x)) ⊎ (o ≡ Some x)
  inserted_by q k v x o true e h = inl (same_number q k e, cc)
  inserted_by q k v x o false e h = inr h

  pub inserted : (m : finite.FinMap nat_cmp X) (k : ℕ) (v : X) (q : ℕ) (x : X) → finite.get (finite.insert m k v) q ≡ Some x → ((q ≡ k) × (v ≡ x)) ⊎ (finite.get m q ≡ Some x)
  inserted m k v q x h = inserted_by q k v x (finite.get m q) _ refl (sym (finite.get-insert nat_cmp_total m k v q) ∙ h)

  -- what it has after a removal was there, at another number
  removed_by : (q k : ℕ) (x : X) (o : Option X) (b : Bool) → eq_by_cmp nat_cmp q k ≡ b → cond b None o ≡ Some x → (q ≢ k) × (o ≡ Some x)
  removed_by q k x o true e h = cc
  removed_by q k x o false e h = (other_number q k e, h)

  pub removed : (m : finite.FinMap nat_cmp X) (k q : ℕ) (x : X) → finite.get (finite.remove m k) q ≡ Some x → (q ≢ k) × (finite.get m q ≡ Some x)
  removed m k q x h = removed_by q k x (finite.get m q) _ refl (sym (finite.get-remove nat_cmp_total m k q) ∙ h)

  pub none_of : (o : Option X) → ((x : X) → o ≡ Some x → ⊥) → o ≡ None
  none_of None h = refl
  none_of (Some x) h = absurd (h x refl)

  cases : (b : Bool) (m : finite.FinMap nat_cmp X) (k : ℕ) (v : X) (q : ℕ) → eq_by_cmp nat_cmp q k ≡ b
      → ((q ≡ k) × (cond b (Some v) (finite.get m q) ≡ Some v)) ⊎ ((q ≢ k) × (cond b (Some v) (finite.get m q) ≡ finite.get m q))
  cases true m k v q e = inl (same_number q k e, refl)
  cases false m k v q e = inr (other_number q k e, refl)

  -- after an insertion: the new value at its number, and elsewhere what was there
  pub get_cases : (m : finite.FinMap nat_cmp X) (k : ℕ) (v : X) (q : ℕ)
      → ((q ≡ k) × (finite.get (finite.insert m k v) q ≡ Some v)) ⊎ ((q ≢ k) × (finite.get (finite.insert m k v) q ≡ finite.get m q))
  get_cases m k v q =
      elim (cases (eq_by_cmp nat_cmp q k) m k v q refl) [
        | inl here ↦ inl (here.0, finite.get-insert nat_cmp_total m k v q ∙ here.1)
        | inr there ↦ inr (there.0, finite.get-insert nat_cmp_total m k v q ∙ there.1)
      ]

  pub get_same : (m : finite.FinMap nat_cmp X) (k : ℕ) (v : X) → finite.get (finite.insert m k v) k ≡ Some v
  get_same m k v = elim (get_cases m k v k) [ inl here ↦ here.1 | inr there ↦ absurd (there.0 refl) ]

  pub get_other : (m : finite.FinMap nat_cmp X) (k : ℕ) (v : X) (q : ℕ) → q ≢ k → finite.get (finite.insert m k v) q ≡ finite.get m q
  get_other m k v q ne = elim (get_cases m k v q) [ inl here ↦ absurd (ne here.0) | inr there ↦ there.1 ]

  pub removed_other : (m : finite.FinMap nat_cmp X) (k q : ℕ) → q ≢ k → finite.get (finite.remove m k) q ≡ finite.get m q
  removed_other m k q ne = finite.get-remove nat_cmp_total m k q ∙ ap (λ b. cond b None (finite.get m q)) (unsigned_tied q k ∙ ne_eqb q k ne)
