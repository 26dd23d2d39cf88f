-- What the histories of a file's halls carry while its rows come in.
use Rattle.std.specs.Prelude.{ℕ, ◌≡◌, List, length, Some, slice_get}
use Rattle.tag.specs.Limits.{call_limit}
use Rattle.recorder.specs.Halls.{RecordedHalls, AreHalls, FallsTo, hall_calls}
use Rattle.recorder.specs.Histories.{Recorded}
use Rattle.file_format.specs.declared.hall_histories.HallHistories.TheInside.{Inside}
use Rattle.file_format.specs.declared.hall_row.HallRow.{HallRow}
use Rattle.file_format.specs.FileHeaders.{halls_in, quorums_in}
use Rattle.file_format.specs.Places.{IsPlacedAfter}

-- the histories so far, and the quorums that the header tells
abbrev pub histories_in : Inside → RecordedHalls
histories_in now = record { halls = now.halls.items; quorums = quorums_in now.header }

-- they are those of a row of halls, each with room for 1,000,000 calls, and their calls are counted
pub record AreHistoriesSoFar (now : Inside) : Type 0 where
  pub lawful : AreHalls (histories_in now)
  pub count : length now.halls.items ≡ halls_in now.header
  pub counted : now.calls ≡ hall_calls now.halls.items
  pub room : (hall : ℕ) (history : Recorded) → slice_get now.halls.items hall ≡ Some history
      → history.limit ≡ call_limit

-- the row has no fault after those of its hall
pub record IsPlacedInHall (halls : List Recorded) (item : HallRow) : Type 0 where
  pub history : Recorded
  pub there : slice_get halls item.hall ≡ Some history
  pub falls : FallsTo (length halls) item.hall item.row
  pub placed : IsPlacedAfter (hall_calls halls) history.rows item.row
