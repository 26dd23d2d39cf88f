-- The texts of pieces, and what went out of them to their writers.
use Rattle.std.specs.Prelude.{ℕ, ◌≡◌, ◌+◌, ◌++◌, List, [], Option, Some, IsSome, Vec, codes, length}
use Rattle.std.specs.Prelude.{slice_get}
use Rattle.std.specs.Io.KnownBytes.{append_known}
use Rattle.std.specs.declared.alloc.Global.{Global}
use Rattle.recorder.specs.declared.row.Row.{Row}
use Rattle.file_format.specs.NumberedRows.{NumberedRow, rows_alone}
use Rattle.file_format.specs.Ranges.{AreNumberedInRange}
use Rattle.file_format.specs.Texts.{header_data, line_text}

-- the header of a piece
abbrev pub header_text : List ℕ
header_text = line_text (header_data (codes "history"))

-- each row of the piece, with the number of its line in the file of which it comes from those
-- places: a file's first row stands on line 2
pub record AreOnLines (places : ℕ → ℕ) (piece : List Row) (numbered : List NumberedRow) : Type 0
  where
    pub alone : rows_alone numbered ≡ piece
    pub lines : (k : ℕ) (row : NumberedRow) → slice_get numbered k ≡ Some row
        → row.line ≡ places k + 2
    pub ranges : AreNumberedInRange numbered

-- the later texts are the texts, but for that piece, whose text is longer by that
pub record IsLonger (texts later : ℕ → List ℕ) (piece : ℕ) (more : List ℕ) : Type 0 where
  pub here : later piece ≡ texts piece ++ more
  pub others : (p : ℕ) → (p ≡ piece → ⊥) → later p ≡ texts p

module _ {W : Type 0} (contents : W → Option (List ℕ)) where
  -- of each writer of the type it is known what went out to it
  abbrev pub AreKnown : Type 0
  AreKnown = (writer : W) → IsSome (contents writer)

  -- the text went out to the writer, and nothing else
  abbrev pub HasOnly : List ℕ → W → Type 0
  HasOnly text writer = AreKnown → contents writer ≡ Some text

  -- nothing went out to any of the writers
  abbrev pub AreFresh : List W → Type 0
  AreFresh writers = (p : ℕ) (writer : W) → slice_get writers p ≡ Some writer → HasOnly [] writer

  -- to each writer the text of its piece went out, and nothing else
  abbrev pub HaveTexts : (ℕ → List ℕ) → List W → Type 0
  HaveTexts texts writers = (p : ℕ) (writer : W) → slice_get writers p ≡ Some writer
      → HasOnly (texts p) writer

  -- what went out to the writer, and then what waits, is the text
  abbrev pub IsBegun : List ℕ → W → List ℕ → Type 0
  IsBegun text writer waits = AreKnown → append_known (contents writer) waits ≡ Some text

  -- the same of each writer, by what waits for it
  abbrev pub AreBegun : (ℕ → List ℕ) → List W → List (Vec ℕ Global) → Type 0
  AreBegun texts writers waiting = (p : ℕ) (writer : W) (waits : Vec ℕ Global)
      → slice_get writers p ≡ Some writer → slice_get waiting p ≡ Some waits
      → IsBegun (texts p) writer waits.items

-- there are so many texts, each a header
pub record AreHeaders (parts : ℕ) (texts : List (Vec ℕ Global)) : Type 0 where
  pub many : length texts ≡ parts
  pub each : (p : ℕ) (text : Vec ℕ Global) → slice_get texts p ≡ Some text
      → text.items ≡ header_text
