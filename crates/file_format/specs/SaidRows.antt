-- Rows as the lines say them that are written for them.
use Rattle.std.specs.Prelude.{ℕ, ◌≡◌, List, Option, IsUtf8}
use Rattle.recorder.specs.declared.row.Row.{Row}
use Rattle.file_format.specs.declared.compact_lines.SaidRow.{SaidRow}
use Rattle.file_format.specs.LineRows.{AreLawful, row_with}
use Rattle.file_format.specs.Ranges.{HasLineIn, IsRowInRange}
use Rattle.file_format.specs.RowTexts.{row_bytes}

-- the row with the texts that stand in the line
abbrev pub row_said : SaidRow → Row
row_said said = row_with said.kind said.key.text.now said.value.text.now

-- the line, without its end, is the one that is written for the row, with some number of a line or
-- with none; the number and the row's fields are in their ranges
pub record IsSaidBy (line : List ℕ) (said : SaidRow) : Type 0 where
  pub number : Option ℕ
  pub numbered : HasLineIn number
  pub text : line ≡ row_bytes (record { hall = said.hall; line = number }) (row_said said)
  pub range : IsRowInRange (row_said said)
  pub lawful : AreLawful said.kind said.key.text.now said.value.text.now
  pub key : IsUtf8 said.key.text.now
  pub value : IsUtf8 said.value.text.now
