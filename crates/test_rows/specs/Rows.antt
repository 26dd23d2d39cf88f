-- Rows as they are written, and what is said of one. A text is its bytes; 10 ends a line.
use Rattle.std.specs.Prelude.{ℕ, ◌≡◌, ◌≢◌, ◌<◌, ◌⊎◌, List, [], ◌∷◌, ◌++◌, length, slice_index}
use Rattle.std.specs.Prelude.{bytes_eq, cond, codes}

-- a text without an end of a line
abbrev pub IsOneLine : List ℕ → Type 0
IsOneLine text = (i : ℕ) → i < length text → slice_index text i ≢ 10

-- whole lines: no text, or one that ends with the end of a line
abbrev pub AreLines : List ℕ → Type 0
AreLines text = (text ≡ []) ⊎ ((front : List ℕ) × (text ≡ front ++ (10 ∷ [])))

-- the text is the input's lines, a line `---`, and what is expected
pub record IsDivided (text input expected : List ℕ) : Type 0 where
  pub whole : text ≡ input ++ (codes "---\n" ++ expected)
  pub lines : AreLines input

-- the block is a line with the name, the input's lines, a line `---`, and what is expected
pub record IsWritten (block name input expected : List ℕ) : Type 0 where
  pub whole : block ≡ name ++ (10 ∷ (input ++ (codes "---\n" ++ expected)))
  pub named : IsOneLine name
  pub lines : AreLines input

-- what is said of a row: its name, what was found, and a line where that is not what is expected
abbrev pub report_text : List ℕ → List ℕ → List ℕ → List ℕ
report_text name expected found =
    name ++ (10 ∷ (found ++ cond (bytes_eq found expected) [] (codes "NOT AS EXPECTED\n")))
