-- A list can be sorted.
use Rattle.std.proofs.Common.{ℕ, zero, suc, ◌≡◌, ◌<◌, ◌⊎◌, Bool, true, false, List, [], ◌∷◌, Some, inl, inr, length, get_or, IsPermutation, ap, subst, refl, arith}
use Rattle.std.proofs.lemmas.List.Sorted.{IsPermutation-refl, IsPermutation-sym, IsPermutation-cons, IsPermutation-trans, IsPermutation-middle}
use native.Mathlib.Numerals.{unary_clauses}
use Rattle.std.specs.Cmp.{IsStrictWeakOrder}
use Rattle.std.specs.List.{slice_get}
use Rattle.std.specs.List.Sorted.{IsSortedBy}

-- something stands there
abbrev pub In : {X : Type 0} → List X → X → Type 0
In xs c = (i : ℕ) × (slice_get xs i ≡ Some c)

pub in_none : {X : Type 0} (c : X) → In [] c → ⊥
in_none c (i, e) = cc

pub in_more : {X : Type 0} (x : X) (xs : List X) (c : X) → In xs c → In (x ∷ xs) c
in_more x xs c h = (suc h.0, h.1)

pub in_split : {X : Type 0} (x : X) (xs : List X) (c : X) → In (x ∷ xs) c → (x ≡ c) ⊎ In xs c
in_split x xs c (zero, e) = inl cc
in_split x xs c (suc i, e) = inr (i, e)

-- an element at its place among sorted ones
place_by : {X : Type 0} → Bool → X → X → List X → List X → List X
place_by true x y ys rest = x ∷ y ∷ ys
place_by false x y ys rest = y ∷ rest

place : {X : Type 0} → (X → X → Bool) → X → List X → List X
place lt x [] = x ∷ []
place lt x (y ∷ ys) = place_by (lt x y) x y ys (place lt x ys)

sort : {X : Type 0} → (X → X → Bool) → List X → List X
sort lt [] = []
sort lt (x ∷ xs) = place lt x (sort lt xs)

-- it only moves them
moved_by : {X : Type 0} (b : Bool) (x y : X) (ys rest : List X) → IsPermutation (x ∷ ys) rest → IsPermutation (x ∷ y ∷ ys) (place_by b x y ys rest)
unfolding place_by
moved_by true x y ys rest h = IsPermutation-refl (x ∷ y ∷ ys)
moved_by false x y ys rest h =
    let swapped : IsPermutation (x ∷ y ∷ ys) (y ∷ x ∷ ys) = IsPermutation-sym (y ∷ x ∷ ys) (x ∷ y ∷ ys) (IsPermutation-middle (y ∷ []) x ys) in
    IsPermutation-trans (x ∷ y ∷ ys) (y ∷ x ∷ ys) (y ∷ rest) swapped (IsPermutation-cons y (x ∷ ys) rest h)

moved : {X : Type 0} (lt : X → X → Bool) (x : X) (ys : List X) → IsPermutation (x ∷ ys) (place lt x ys)
unfolding place
moved lt x [] = IsPermutation-refl (x ∷ [])
moved lt x (y ∷ ys) = moved_by (lt x y) x y ys (place lt x ys) (moved lt x ys)

sort_moves : {X : Type 0} (lt : X → X → Bool) (xs : List X) → IsPermutation xs (sort lt xs)
unfolding sort
sort_moves lt [] = IsPermutation-refl []
sort_moves lt (x ∷ xs) = IsPermutation-trans (x ∷ xs) (x ∷ sort lt xs) (place lt x (sort lt xs)) (IsPermutation-cons x xs (sort lt xs) (sort_moves lt xs)) (moved lt x (sort lt xs))

-- what is there after it was placed was there, or is it
placed_by : {X : Type 0} (b : Bool) (x y : X) (ys rest : List X) (c : X) → (In rest c → (x ≡ c) ⊎ In ys c) → In (place_by b x y ys rest) c → (x ≡ c) ⊎ In (y ∷ ys) c
unfolding place_by
placed_by true x y ys rest c h i = in_split x (y ∷ ys) c i
placed_by false x y ys rest c h i = elim (in_split y rest c i) [ inl e ↦ inr (0, ap Some e) | inr r ↦ elim (h r) [ inl e ↦ inl e | inr k ↦ inr (in_more y ys c k) ] ]

placed : {X : Type 0} (lt : X → X → Bool) (x : X) (ys : List X) (c : X) → In (place lt x ys) c → (x ≡ c) ⊎ In ys c
unfolding place
placed lt x [] c i = in_split x [] c i
placed lt x (y ∷ ys) c i = placed_by (lt x y) x y ys (place lt x ys) c (placed lt x ys c) i

-- none after x comes before it
abbrev Leads : {X : Type 0} → (X → X → Bool) → X → List X → Type 0
Leads lt x ys = (c : _) → In ys c → lt c x ≡ false

abbrev IsUp : {X : Type 0} → (X → X → Bool) → List X → Type 0
IsUp lt [] = Unit {0}
IsUp lt (x ∷ xs) = Leads lt x xs × IsUp lt xs

module _ {X : Type 0} (lt : X → X → Bool) (o : IsStrictWeakOrder lt) where
  up_by : (b : Bool) (x y : X) (ys rest : List X) → lt x y ≡ b → Leads lt y ys × IsUp lt ys → IsUp lt rest → ((c : X) → In rest c → (x ≡ c) ⊎ In ys c) → IsUp lt (place_by b x y ys rest)
  unfolding place_by
  up_by true x y ys rest e r up out = (
    λ c i. elim (in_split y ys c i) [
      | inl same ↦ subst (λ (z : X). lt z x ≡ false) same (o.one_way x y e)
      | inr k ↦ o.chain c y x (r.0 c k) (o.one_way x y e)
    ],
    r,
  )
  up_by false x y ys rest e r up out = (λ c i. elim (out c i) [ inl same ↦ subst (λ (z : X). lt z y ≡ false) same e | inr k ↦ r.0 c k ], up)

  up_place : (x : X) (ys : List X) → IsUp lt ys → IsUp lt (place lt x ys)
  unfolding place
  up_place x [] r = (λ c i. absurd (in_none c i), tt)
  up_place x (y ∷ ys) r = up_by (lt x y) x y ys (place lt x ys) refl r (up_place x ys r.1) (placed lt x ys)

  sort_up : (xs : List X) → IsUp lt (sort lt xs)
  unfolding sort
  sort_up [] = tt
  sort_up (x ∷ xs) = up_place x (sort lt xs) (sort_up xs)

  head_leads : (x d : X) (xs : List X) → 0 < length xs → Leads lt x xs → lt (get_or xs 0 d) x ≡ false
  head_leads x d [] less lead = absurd (omega arith)
  head_leads x d (y ∷ ys) less lead = lead y (0, refl)

  sorted_from_up : (xs : List X) → IsUp lt xs → IsSortedBy lt xs
  sorted_from_up [] up k d low high = absurd (omega arith)
  sorted_from_up (x ∷ xs) up zero d low high = head_leads x d xs (omega arith) up.0
  sorted_from_up (x ∷ xs) up (suc k) d low high = simp unary_clauses (simp unary_clauses at (sorted_from_up xs up.1 k d (omega arith) (omega arith)))

  pub sorted_list : (xs : List X) → (ys : List X) × IsPermutation xs ys × IsSortedBy lt ys
  sorted_list xs = (sort lt xs, sort_moves lt xs, sorted_from_up (sort lt xs) (sort_up xs))
