-- Keys numbered in the order in which they are first seen.
use Rattle.std.specs.Prelude.{ℕ, ◌≡◌, List, [], ◌∷◌, ◌++◌, Option, None, Some, length, slice_get}
use Rattle.std.specs.Prelude.{Contains}

-- each key once
abbrev pub EachOnce : List (List ℕ) → Type 0
EachOnce keys =
    (i j : ℕ) (key : List ℕ) → slice_get keys i ≡ Some key → slice_get keys j ≡ Some key → i ≡ j

-- the place of the key, if it is among the keys
abbrev pub IsPlace : List (List ℕ) → List ℕ → Option ℕ → Type 0
IsPlace keys key None = Contains keys key → ⊥
IsPlace keys key (Some number) = slice_get keys number ≡ Some key

-- the key has that number: its place among the keys that were seen, or the place after them, which
-- it is given
pub data Numbers (old : List (List ℕ)) (key : List ℕ) (number : ℕ) (new : List (List ℕ)) : Type 0
  where
    known : slice_get old number ≡ Some key → new ≡ old → Numbers old key number new
    first : (Contains old key → ⊥) → number ≡ length old → new ≡ old ++ key ∷ []
        → Numbers old key number new
