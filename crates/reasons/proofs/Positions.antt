-- The first element of a list that passes a test, from a place on.
use Rattle.std.proofs.Common.{ℕ, zero, suc, ◌≡◌, ◌≤◌, ◌+◌, List, [], ◌∷◌, Some, None, Bool, true, false, cond, length, drop, get_or, refl, ◌∙◌, ap, arith}
use Rattle.std.specs.List.{slice_get, position_from}
use Rattle.std.proofs.lemmas.Option.{same_Some, slice_get_within, get_or_from_slice_get}
use Rattle.std.proofs.lemmas.List.{at_drop_more, at_drop_all}

-- what stands in the rest of a list stands in the list, so many places later
pub slice_get-drop : {X : Type 0} (xs : List X) (n k j : ℕ) → j ≡ n + k → slice_get (drop n xs) k ≡ slice_get xs j
slice_get-drop xs zero k j e = let same : k ≡ j = omega arith in ap (slice_get xs) same
slice_get-drop [] (suc n) k j e = refl
slice_get-drop (x ∷ xs) (suc n) k zero e = absurd (omega arith)
slice_get-drop (x ∷ xs) (suc n) k (suc j) e = slice_get-drop xs n k j (omega arith)

module _ {X : Type 0} (t : X → Bool) (xs : List X) (i : ℕ) where
  turn : (x : X) (b : Bool) → slice_get xs i ≡ Some x → t x ≡ b → position_from t i (drop i xs) ≡ cond b (Some i) (position_from t (i + 1) (drop (i + 1) xs))
  turn x b at test =
      let value : get_or xs i x ≡ x = get_or_from_slice_get xs i x x at in
      let same : t (get_or xs i x) ≡ b = ap t value ∙ test in
      at_drop_more (position_from t i) xs i x (slice_get_within xs i x at) ∙ ap (λ v. cond v (Some i) (position_from t (i + 1) (drop (i + 1) xs))) same

  -- it is the one at the place, if that passes
  pub first_here : (x : X) → slice_get xs i ≡ Some x → t x ≡ true → position_from t i (drop i xs) ≡ Some i
  first_here x at passes = turn x true at passes

  -- and otherwise the first from the next place on
  pub first_later : (x : X) → slice_get xs i ≡ Some x → t x ≡ false → position_from t i (drop i xs) ≡ position_from t (i + 1) (drop (i + 1) xs)
  first_later x at fails = turn x false at fails

  -- past the end there is none
  pub first_past : length xs ≤ i → position_from t i (drop i xs) ≡ None
  first_past past = at_drop_all (position_from t i) xs i past

-- an element of the list that passes, at the place that is answered
pub record Passes {X : Type 0} (t : X → Bool) (i place : ℕ) (xs : List X) : Type 0 where
  pub later : ℕ
  pub value : X
  pub at : slice_get xs later ≡ Some value
  pub place_is : place ≡ i + later
  pub passes : t value ≡ true

passes_by : {X : Type 0} (t : X → Bool) (i place : ℕ) (x : X) (xs : List X) (b : Bool) → t x ≡ b → (position_from t (i + 1) xs ≡ Some place → Passes t (i + 1) place xs) → cond b (Some i) (position_from t (i + 1) xs) ≡ Some place → Passes t i place (x ∷ xs)
passes_by t i place x xs true test rest e = record { later = 0; value = x; at = refl; place_is = (let same : i ≡ place = same_Some i place e in omega arith); passes = test }
passes_by t i place x xs false test rest e =
    let r = rest e in
    record { later = suc r.later; value = r.value; at = r.at; place_is = omega (arith, r.place_is); passes = r.passes }

-- where a place is answered, an element that passes stands there
pub passes_there : {X : Type 0} (t : X → Bool) (i place : ℕ) (xs : List X) → position_from t i xs ≡ Some place → Passes t i place xs
passes_there t i place [] e = absurd (cc)
passes_there t i place (x ∷ xs) e = passes_by t i place x xs (t x) refl (λ rest. passes_there t (i + 1) place xs rest) e

-- where none is, no element passes
fails_by : {X : Type 0} (t : X → Bool) (i : ℕ) (xs : List X) (b : Bool) → cond b (Some i) (position_from t (i + 1) xs) ≡ None → position_from t (i + 1) xs ≡ None
fails_by t i xs true e = absurd (cc)
fails_by t i xs false e = e

passing : {X : Type 0} (t : X → Bool) (i : ℕ) (xs : List X) (b : Bool) → b ≡ true → cond b (Some i) (position_from t (i + 1) xs) ≡ None → ⊥
passing t i xs true passes e = cc
passing t i xs false passes e = cc

pub none_passes : {X : Type 0} (t : X → Bool) (i : ℕ) (xs : List X) → position_from t i xs ≡ None → (k : ℕ) (x : X) → slice_get xs k ≡ Some x → t x ≡ true → ⊥
none_passes t i [] e k x at passes = cc
none_passes t i (y ∷ xs) e zero x at passes = passing t i xs (t y) (ap t (same_Some y x at) ∙ passes) e
none_passes t i (y ∷ xs) e (suc k) x at passes = none_passes t (i + 1) xs (fails_by t i xs (t y) e) k x at passes
