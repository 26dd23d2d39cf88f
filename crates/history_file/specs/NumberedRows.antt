-- The lines of a history file on which the rows of each hall stand. The header is line 1.
use Rattle.std.specs.Prelude.{ℕ, ◌≡◌, ◌≤◌, ◌-◌, List, Some, length, map, filter, nat_eq}
use Rattle.std.specs.Prelude.{slice_get, IsSomeAnd}
use Rattle.std.specs.List.{enumerate_from}
use Rattle.counted_devices.specs.Cuts.{last_lines}
use Rattle.recorder.specs.declared.row.Row.{Row}
use Rattle.file_format.specs.declared.file_header.FileHeader.{FileHeader}
use Rattle.file_format.specs.declared.hall_row.HallRow.{HallRow}
use Rattle.file_format.specs.FileHeaders.{halls_in}
use Rattle.file_format.specs.Files.{IsLineOf}
use Rattle.file_format.specs.HistoriesFormat.{histories_format, MakesHistories}
use Rattle.file_format.specs.Readings.{Reads}
use Rattle.history_file.specs.declared.numbered_format.NumberedHistories.{NumberedHistories}

-- of a line and the row that stands on it, the line
abbrev pub line_in : ℕ × HallRow → ℕ
line_in numbered = numbered.0

-- the lines of a hall's rows, in their order: a file's rows begin at line 2
abbrev pub lines_of : ℕ → List HallRow → List ℕ
lines_of hall items =
    map line_in (filter (λ numbered. nat_eq numbered.1.hall hall) (enumerate_from 2 items))

-- as many lists as halls, for each hall the lines of its rows
pub record AreLinesByHall (header : FileHeader) (items : List HallRow)
    (lists : List (List ℕ)) : Type 0 where
  pub count : length lists ≡ halls_in header
  pub each : (hall : ℕ) (lines : List ℕ) → slice_get lists hall ≡ Some lines
      → lines ≡ lines_of hall items

-- for each hall the history of its rows and the lines of these, and the quorums that the header
-- tells
pub record MakesNumbered (header : FileHeader) (items : List HallRow)
    (numbered : NumberedHistories) : Type 0 where
  pub made : MakesHistories header items numbered.histories
  pub lines : AreLinesByHall header items numbered.lines.items

-- the item stands on that line of a file of those items
pub record StandsOn (items : List HallRow) (line : ℕ) (item : HallRow) : Type 0 where
  pub below : 2 ≤ line
  pub at : slice_get items (line - 2) ≡ Some item

-- a line for each of the hall's rows, on which that row stands
pub record AreLinesOfRows (items : List HallRow) (hall : ℕ) (rows : List Row) (lines : List ℕ) :
    Type 0 where
  pub count : length lines ≡ length rows
  pub each : (k : ℕ) (row : Row) (line : ℕ) → slice_get rows k ≡ Some row
      → slice_get lines k ≡ Some line → StandsOn items line (record { hall = hall; row = row })

-- the line of that number in a file that was read says the item
abbrev pub LineSaysItem : {bytes : List ℕ} {numbered : NumberedHistories}
    → Reads histories_format MakesNumbered bytes numbered → ℕ → HallRow → Type 0
LineSaysItem file line item = IsSomeAnd (slice_get (last_lines file.lines file.rest) (line - 1))
    (λ text. IsLineOf histories_format file.header text item)
