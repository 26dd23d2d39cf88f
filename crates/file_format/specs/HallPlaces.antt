-- Whether a row may stand where it stands among rows of several halls, and which fault it has
-- otherwise.
use Rattle.std.specs.Prelude.{ℕ, ◌<◌, ◌≤◌, List, map, filter, nat_eq}
use Rattle.recorder.specs.declared.row.Row.{Row}
use Rattle.recorder.specs.Halls.{FallsTo}
use Rattle.recorder.specs.Histories.{call_count}
use Rattle.file_format.specs.declared.fault.LineFault.{LineFault}
use Rattle.file_format.specs.declared.fault.LineFault.TheVariants.{Range, KeyInAnotherHall}
use Rattle.file_format.specs.declared.hall_row.HallRow.{HallRow}
use Rattle.file_format.specs.Places.{IsMisplacedAfter}

-- the row without its hall
abbrev pub row_in_hall : HallRow → Row
row_in_hall item = item.row

-- the rows of a hall, in their order
abbrev pub rows_of : ℕ → List HallRow → List Row
rows_of hall items = map row_in_hall (filter (λ item. nat_eq item.hall hall) items)

-- how many calls the rows of all halls begin together
abbrev pub calls_together : List HallRow → ℕ
calls_together items = call_count (map row_in_hall items)

-- the row is of one of so many halls, and where it begins a call, the call's key is one of its hall
pub record IsOfItsHall (halls : ℕ) (item : HallRow) : Type 0 where
  pub below : item.hall < halls
  pub falls : FallsTo halls item.hall item.row

-- an invocation whose key is another hall's
pub record IsOfAnotherHall (halls : ℕ) (item : HallRow) : Type 0 where
  pub below : item.hall < halls
  pub apart : FallsTo halls item.hall item.row → ⊥

-- the first fault, in order of number, that the row has after those rows; a line has said already
-- that its hall is there
abbrev pub IsMisplacedInHall : ℕ → List HallRow → HallRow → LineFault → Type 0
IsMisplacedInHall halls items item Range = halls ≤ item.hall
IsMisplacedInHall halls items item KeyInAnotherHall = IsOfAnotherHall halls item
IsMisplacedInHall halls items item fault = IsOfItsHall halls item
    × IsMisplacedAfter (calls_together items) (rows_of item.hall items) item.row fault
