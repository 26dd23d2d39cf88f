-- Lines of a file: the bytes up to each byte 10, and what stands after the last one.
use Rattle.std.specs.Prelude.{ℕ, ◌≡◌, ◌≢◌, ◌<◌, ◌≤◌, ◌-◌, List, [], ◌∷◌, ◌++◌, All, length, take}
use Rattle.std.specs.Prelude.{drop, slice_index}
use Rattle.std.specs.List.{flat_map}

-- a line with its end
abbrev pub with_end : List ℕ → List ℕ
with_end line = line ++ 10 ∷ []

-- the most bytes that a line may have
abbrev pub longest_line : ℕ
longest_line = 65536

-- no end of a line stands there
abbrev pub HasNoEnd : List ℕ → Type 0
HasNoEnd bytes = All (λ b. b ≢ 10) bytes

-- the first end of a line from a place on
pub record IsFirstEnd (bytes : List ℕ) (from place : ℕ) : Type 0 where
  pub behind : from ≤ place
  pub inside : place < length bytes
  pub none : HasNoEnd (take (place - from) (drop from bytes))
  pub stands : slice_index bytes place ≡ 10

-- the bytes are these lines, each with its end, and then a rest without one
pub record Splits (bytes : List ℕ) (lines : List (List ℕ)) (rest : List ℕ) : Type 0 where
  pub whole : bytes ≡ flat_map with_end lines ++ rest
  pub each : All HasNoEnd lines
  pub partial : HasNoEnd rest

-- the bytes are these chunks, each of one line or more and with an end after it, and then a rest
-- without an end
pub record Divides (bytes : List ℕ) (chunks : List (List ℕ)) (rest : List ℕ) : Type 0 where
  pub whole : bytes ≡ flat_map with_end chunks ++ rest
  pub partial : HasNoEnd rest

-- the chunks, each with an end after it, are these lines
abbrev pub AreLinesIn : List (List ℕ) → List (List ℕ) → Type 0
AreLinesIn chunks lines = Splits (flat_map with_end chunks) lines []

-- the lines at the end: each that has its end, and a rest that isn't empty
abbrev pub last_lines : List (List ℕ) → List ℕ → List (List ℕ)
last_lines lines [] = lines
last_lines lines (b ∷ rest) = lines ++ (b ∷ rest) ∷ []
