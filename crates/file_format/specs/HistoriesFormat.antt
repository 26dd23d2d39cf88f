-- The format of a history file of either version: after the header one line a row, each of a hall.
use Rattle.std.specs.Prelude.{ℕ, ◌≡◌, ◌≤◌, List, Some, length, slice_get}
use Rattle.tag.specs.Limits.{call_limit}
use Rattle.recorder.specs.Halls.{RecordedHalls}
use Rattle.recorder.specs.Histories.{Recorded, IsWellFormed}
use Rattle.file_format.specs.declared.file_header.FileHeader.{FileHeader}
use Rattle.file_format.specs.declared.hall_row.HallRow.{HallRow}
use Rattle.file_format.specs.FileHeaders.{halls_in, quorums_in, file_header_in}
use Rattle.file_format.specs.Formats.{Format}
use Rattle.file_format.specs.HallPlaces.{rows_of, calls_together, IsOfItsHall, IsMisplacedInHall}
use Rattle.file_format.specs.HallRows.{hall_row_in}

-- each hall's rows are a history, of keys of that hall, with at most 1,000,000 calls together
pub record AreHistories (header : FileHeader) (items : List HallRow) : Type 0 where
  pub formed : (hall : ℕ) → IsWellFormed (rows_of hall items)
  pub placed : (k : ℕ) (item : HallRow) → slice_get items k ≡ Some item
      → IsOfItsHall (halls_in header) item
  pub few : calls_together items ≤ call_limit

-- for each hall the history of its rows, and the quorums that the header tells
pub record MakesHistories (header : FileHeader) (items : List HallRow) (histories : RecordedHalls) :
    Type 0 where
  pub count : length histories.halls ≡ halls_in header
  pub each : (hall : ℕ) (history : Recorded) → slice_get histories.halls hall ≡ Some history
      → history ≡ record { rows = rows_of hall items; limit = call_limit }
  pub told : histories.quorums ≡ quorums_in header

-- the format of a history file of either version
abbrev pub histories_format : Format FileHeader HallRow
histories_format = record {
  heading = file_header_in;
  meaning = hall_row_in;
  Admits = AreHistories;
  HasFault = λ header. IsMisplacedInHall (halls_in header);
}
