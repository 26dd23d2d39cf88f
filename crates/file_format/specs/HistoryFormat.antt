-- The format of a history file: after the header one line a row.
use Rattle.std.specs.Prelude.{◌≡◌, ◌≤◌, List, codes}
use Rattle.tag.specs.Limits.{call_limit}
use Rattle.recorder.specs.declared.row.Row.{Row}
use Rattle.recorder.specs.Histories.{Recorded, IsWellFormed, call_count}
use Rattle.file_format.specs.Formats.{Format}
use Rattle.file_format.specs.Headers.{header_in}
use Rattle.file_format.specs.Places.{IsMisplaced}
use Rattle.file_format.specs.Rows.{row_in}

-- the rows are a history of at most 1,000,000 calls
pub record IsHistory (rows : List Row) : Type 0 where
  pub formed : IsWellFormed rows
  pub few : call_count rows ≤ call_limit

-- a history of those rows
abbrev pub MakesHistory : Unit {0} → List Row → Recorded → Type 0
MakesHistory header rows history = history ≡ record { rows = rows; limit = call_limit }

-- of version 1 alone: its header says nothing that a row is judged by
abbrev pub history_format : Format (Unit {0}) Row
history_format = record {
  heading = header_in (codes "history");
  meaning = λ header. row_in;
  Admits = λ header. IsHistory;
  HasFault = λ header. IsMisplaced;
}
