-- The elements of a list that pass a test, and where they stood.
use Rattle.std.proofs.Common.{ℕ, zero, suc, ◌≡◌, ◌<◌, inl, inr, List, [], ◌∷◌, Some, Bool, true, false, ap, sym, ◌∙◌, refl, arith}
use Rattle.std.specs.List.{slice_get}
use Rattle.std.proofs.lemmas.Bool.{cases_lt}
use Rattle.std.proofs.lemmas.Option.{same_Some}
use Rattle.tag.proofs.Options.{none_some}

module _ {X : Type 0} (keeps : X → Bool) where
  kept_by : Bool → X → List X → List X
  kept_by true x xs = x ∷ xs
  kept_by false x xs = xs

  pub kept : List X → List X
  kept [] = []
  kept (x ∷ xs) = kept_by (keeps x) x (kept xs)

  stood_by : Bool → (ℕ → ℕ) → ℕ → ℕ
  stood_by true rest zero = 0
  stood_by true rest (suc i) = suc (rest i)
  stood_by false rest i = suc (rest i)

  -- where the one at that place stood
  pub stood : List X → ℕ → ℕ
  stood [] i = i
  stood (x ∷ xs) i = stood_by (keeps x) (stood xs) i

  -- later ones stood later
  rises_by : (b : Bool) (rest : ℕ → ℕ) → ((i j : ℕ) → i < j → rest i < rest j) → (i j : ℕ) → i < j
      → stood_by b rest i < stood_by b rest j
  unfolding stood_by
  rises_by true rest up i zero less = absurd (omega arith)
  rises_by true rest up zero (suc j) less = omega arith
  rises_by true rest up (suc i) (suc j) less = (let more = up i j (omega arith) in omega arith)
  rises_by false rest up i j less = (let more = up i j less in omega arith)

  pub stood_rises : (xs : List X) (i j : ℕ) → i < j → stood xs i < stood xs j
  unfolding stood
  stood_rises [] i j less = less
  stood_rises (x ∷ xs) i j less = rises_by (keeps x) (stood xs) (stood_rises xs) i j less

  -- so an earlier one stood earlier
  pub stood_earlier : (xs : List X) (i j : ℕ) → stood xs i < stood xs j → i < j
  stood_earlier xs i j less = elim (cases_lt i j) [
    | inl h ↦ h
    | inr h ↦ elim (cases_lt j i) [
      | inl g ↦ (let down = stood_rises xs j i g in absurd (omega arith))
      | inr g ↦ (let same : i ≡ j = omega arith in let at = ap (stood xs) same in absurd (omega arith))
    ]
  ]

  -- it is the same, and passes
  at_by : (x : X) (xs : List X) (b : Bool) → keeps x ≡ b → ((i : ℕ) (y : X) → slice_get (kept xs) i ≡ Some y
      → (slice_get xs (stood xs i) ≡ Some y) × (keeps y ≡ true)) → (i : ℕ) (y : X) → slice_get (kept_by b x (kept xs)) i ≡ Some y
      → (slice_get (x ∷ xs) (stood_by b (stood xs) i) ≡ Some y) × (keeps y ≡ true)
  unfolding kept_by stood_by
  at_by x xs true e rest zero y at = (at, sym (ap keeps (same_Some x y at)) ∙ e)
  at_by x xs true e rest (suc i) y at = rest i y at
  at_by x xs false e rest i y at = rest i y at

  pub stood_at : (xs : List X) (i : ℕ) (y : X) → slice_get (kept xs) i ≡ Some y
      → (slice_get xs (stood xs i) ≡ Some y) × (keeps y ≡ true)
  unfolding kept stood
  stood_at [] i y at = none_some at
  stood_at (x ∷ xs) i y at = at_by x xs (keeps x) refl (stood_at xs) i y at

  -- each that passes is there
  pub record Stands (xs : List X) (k : ℕ) (y : X) : Type 0 where
    pub place : ℕ
    pub was : stood xs place ≡ k
    pub at : slice_get (kept xs) place ≡ Some y

  record StandsBy (b : Bool) (x : X) (xs : List X) (k : ℕ) (y : X) : Type 0 where
    place : ℕ
    was : stood_by b (stood xs) place ≡ k
    at : slice_get (kept_by b x (kept xs)) place ≡ Some y

  there_by : (x : X) (xs : List X) (b : Bool) → keeps x ≡ b → ((k : ℕ) (y : X) → slice_get xs k ≡ Some y → keeps y ≡ true
      → Stands xs k y) → (k : ℕ) (y : X) → slice_get (x ∷ xs) k ≡ Some y → keeps y ≡ true → StandsBy b x xs k y
  unfolding kept_by stood_by
  there_by x xs true e rest zero y at passes = record { place = 0; was = refl; at = at }
  there_by x xs true e rest (suc k) y at passes =
      let s = rest k y at passes in
      record { place = suc s.place; was = ap suc s.was; at = s.at }
  there_by x xs false e rest zero y at passes =
      let same = ap keeps (same_Some x y at) in
      absurd (cc)
  there_by x xs false e rest (suc k) y at passes =
      let s = rest k y at passes in
      record { place = s.place; was = ap suc s.was; at = s.at }

  pub stands_there : (xs : List X) (k : ℕ) (y : X) → slice_get xs k ≡ Some y → keeps y ≡ true → Stands xs k y
  unfolding kept stood
  stands_there [] k y at passes = none_some at
  stands_there (x ∷ xs) k y at passes =
      let s = there_by x xs (keeps x) refl (stands_there xs) k y at passes in
      record { place = s.place; was = s.was; at = s.at }
