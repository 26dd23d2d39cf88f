-- Maps with one entry more.
use Rattle.std.proofs.Common.{ℕ, ◌≡◌, ◌⊎◌, inl, inr, Option, Some, cond, sym, ◌∙◌, ap}
use Rattle.std.specs.Cmp.{Equal-is}
use Rattle.std.specs.declared.cmp.Ordering.{Ordering}
use Rattle.std.specs.BTreeMap.{BTreeMap, Updates, get, is_at}
use Rattle.std.proofs.lemmas.Bool.{cases_Bool}
use Rattle.std.proofs.lemmas.Option.{same_Some}
use Rattle.std.proofs.lemmas.Map.Lookups.{CmpEqualImpliesEq}

-- what an updated map has was written, or was there before
pub updated_cases : {K : Type 0} (cmp : K → K → Ordering) → CmpEqualImpliesEq cmp
    → (old new : BTreeMap K ℕ) (k q : K) (v w : ℕ) → Updates cmp old new k (Some v) → get cmp new q ≡ Some w
    → ((k ≡ q) × (v ≡ w)) ⊎ (get cmp old q ≡ Some w)
updated_cases cmp exact old new k q v w updates has = elim (cases_Bool (is_at (cmp k) q)) [
  | inl tied ↦ inl (exact k q ((Equal-is (cmp k q)).0 tied), same_Some v w (sym (updates.0 q ∙ ap (λ b. cond b (Some v) (get cmp old q)) tied) ∙ has))
  | inr apart ↦ inr (sym (updates.2 q apart) ∙ has)
]

-- another key keeps its value
pub kept : {K : Type 0} (cmp : K → K → Ordering) → CmpEqualImpliesEq cmp
    → (old new : BTreeMap K ℕ) (k q : K) (w : Option ℕ) → Updates cmp old new k w → (k ≡ q → ⊥)
    → get cmp new q ≡ get cmp old q
kept cmp exact old new k q w updates other = elim (cases_Bool (is_at (cmp k) q)) [
  | inl tied ↦ absurd (other (exact k q ((Equal-is (cmp k q)).0 tied)))
  | inr apart ↦ updates.2 q apart
]
