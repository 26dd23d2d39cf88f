-- Lines that are byte for byte what is written for a row, for a row of a hall, or for a piece of an
-- order.
use Rattle.std.specs.Prelude.{ℕ, ◌≡◌, ◌<◌, ◌≤◌, List, length, Option, None}
use Rattle.recorder.specs.declared.row.Row.{Row}
use Rattle.recorder.specs.declared.order.KeyOrder.{KeyOrder}
use Rattle.counted_devices.specs.Cuts.{with_end}
use Rattle.file_format.specs.declared.file_header.FileHeader.{FileHeader}
use Rattle.file_format.specs.declared.hall_row.HallRow.{HallRow}
use Rattle.file_format.specs.FileHeaders.{halls_in, written_hall}
use Rattle.file_format.specs.Ranges.{HasLineIn, IsRowInRange, IsOrderInRange}
use Rattle.file_format.specs.Texts.{marked_text, piece_text}

-- the line, with its end, is the one that is written for the row, with some number of a line or
-- with none; the number and the row's fields are in their ranges
pub record IsRowLine (line : List ℕ) (row : Row) : Type 0 where
  pub number : Option ℕ
  pub numbered : HasLineIn number
  pub text : with_end line ≡ marked_text (record { hall = None; line = number }) row
  pub range : IsRowInRange row

-- the same of a row of one of the halls after that header
pub record IsHallRowLine (header : FileHeader) (line : List ℕ) (item : HallRow) : Type 0 where
  pub number : Option ℕ
  pub numbered : HasLineIn number
  pub text : with_end line
      ≡ marked_text (record { hall = written_hall header item.hall; line = number }) item.row
  pub hall : item.hall < halls_in header
  pub few : item.hall < 64
  pub range : IsRowInRange item.row

-- the same of a piece of an order, of at most 1,000 calls
pub record IsPieceLine (line : List ℕ) (piece : KeyOrder) : Type 0 where
  pub text : with_end line ≡ piece_text piece
  pub range : IsOrderInRange piece
  pub few : length piece.order ≤ 1000
