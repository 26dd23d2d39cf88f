-- Rows with the numbers of their lines in a file that is split.
use Rattle.std.specs.Prelude.{ℕ, List, map}
use Rattle.recorder.specs.declared.row.Row.{Row}

-- a row, and the number of its line
pub record NumberedRow : Type 0 where
  pub line : ℕ
  pub row : Row

-- the rows without their numbers
abbrev pub rows_alone : List NumberedRow → List Row
rows_alone numbered = map (λ (each : NumberedRow). each.row) numbered
