-- Copies of records, beside the log of a seat.
use Rattle.std.specs.Prelude.{ℕ, ◌≤◌, List, [], length}
use Rattle.recorder.specs.Histories.{Recorded}
use Rattle.recorder.specs.Records.{IsPart}
use Rattle.recorder.specs.Sound.{TagSound}
use Rattle.recorder.specs.declared.part.Call.{Call}
use Rattle.hall_lock.specs.Turns.{IsCopied}
use Rattle.recorder.specs.Logs.{IsLog, of_hall}
use Rattle.seats.specs.Seats.{Seat, seen_in}

-- the history is a copy of a hall's record, the tags of whose parts are sound: it has at least the
-- rows that the seat has seen, and of its client the calls that the seat has in its log
pub record IsSnapshotFor (history : Recorded) (s : Seat) (hall : ℕ) : Type 0 where
  pub copied : IsCopied [] history
  pub parts : (key : List ℕ) (part : List Call) → IsPart history.rows key part → TagSound part
  pub seen : seen_in s hall ≤ length history.rows
  pub log : IsLog history.rows s.client (of_hall hall s.log)
