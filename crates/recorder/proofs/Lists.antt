-- Fronts of lists, and lists without their last element, by place.
use Rattle.std.proofs.Common.{ℕ, ◌≡◌, ◌<◌, inl, inr, List, [], ◌∷◌, ◌++◌, Some, take, ◌∙◌}
use Rattle.std.specs.List.{slice_get, Contains}
use Rattle.std.proofs.lemmas.List.Elements.{Contains-push_cases}
use Rattle.tag.proofs.Lists.{place_of, Contains-slice_get, push_cases, slice_get-take, in_front}

-- an element of the longer list that isn't the last is one of the shorter
pub slice_get-back : {X : Type 0} (xs : List X) (y : X) (k : ℕ) (z : X) → slice_get (xs ++ y ∷ []) k ≡ Some z → (y ≡ z → ⊥) → slice_get xs k ≡ Some z
slice_get-back xs y k z h other = elim (push_cases xs y k z h) [ inl w ↦ w | inr w ↦ absurd (other w.1) ]

pub Contains-back : {X : Type 0} (xs : List X) (y x : X) → Contains (xs ++ y ∷ []) x → (y ≡ x → ⊥) → Contains xs x
Contains-back xs y x h other = elim (Contains-push_cases xs y x h) [ inl w ↦ w | inr w ↦ absurd (other w) ]

-- what a front contains stands at a place of the list, and the other way round
pub place_of-take : {X : Type 0} (xs : List X) (n : ℕ) (x : X) → Contains (take n xs) x → (k : ℕ) × (k < n) × (slice_get xs k ≡ Some x)
place_of-take xs n x h = let k = place_of (take n xs) x h in let f = in_front xs n k.0 x k.1 in (k.0, f.0, f.1)

pub Contains-front : {X : Type 0} (xs : List X) (n : ℕ) (x : X) → Contains (take n xs) x → Contains xs x
Contains-front xs n x h = let k = place_of-take xs n x h in Contains-slice_get xs k.0 x k.2

pub Contains-take : {X : Type 0} (xs : List X) (n k : ℕ) (x : X) → k < n → slice_get xs k ≡ Some x → Contains (take n xs) x
Contains-take xs n k x below at = Contains-slice_get (take n xs) k x (slice_get-take xs n k below ∙ at)
