-- The format of a history file of version 1 of any length, and what takes its rows.
use Rattle.std.specs.Prelude.{◌≡◌, List, [], ◌∷◌, ◌++◌, Result, Ok, Err}
use Rattle.recorder.specs.declared.row.Row.{Row}
use Rattle.recorder.specs.Histories.{IsWellFormed, MayFollow}
use Rattle.file_format.specs.declared.fault.LineFault.{LineFault}
use Rattle.file_format.specs.Faults.{LineStop}
use Rattle.file_format.specs.Formats.{Format}
use Rattle.file_format.specs.HistoryFormat.{history_format}
use Rattle.file_format.specs.Places.{IsMisplacedAfter}
use Rattle.counted_devices.specs.declared.read_fault.Stop.TheVariants as stop

-- the first fault, in order of number, that the row has after those rows: as no call is counted,
-- none is one too many
abbrev pub IsMisplacedInLong : List Row → Row → LineFault → Type 0
IsMisplacedInLong rows row fault = IsMisplacedAfter 0 rows row fault

-- the rows are a history, of however many calls
abbrev pub long_history_format : Format (Unit {0}) Row
long_history_format = record history_format {
  Admits = λ header. IsWellFormed;
  HasFault = λ header. IsMisplacedInLong;
}

-- the rows themselves
abbrev pub MakesRows : Unit {0} → List Row → List Row → Type 0
MakesRows header rows made = made ≡ rows

module _ {Taker : Type 0} (HasTaken : List Row → Taker → Type 0) where
  -- the row is taken after those rows; or it has that fault after them, and is not; memory is
  -- wanted only for a row without one
  abbrev pub IsTakenAfter : List Row → Row → Result (Unit {0}) LineStop → Taker → Type 0
  IsTakenAfter rows row (Ok done) new = MayFollow rows row × HasTaken (rows ++ row ∷ []) new
  IsTakenAfter rows row (Err (stop.Fault fault)) new =
      IsMisplacedInLong rows row fault × HasTaken rows new
  IsTakenAfter rows row (Err stop.Memory) new = MayFollow rows row

  -- the same, whichever rows were taken before
  abbrev pub IsTaken : Taker → Row → Result (Unit {0}) LineStop → Taker → Type 0
  IsTaken old row result new = (rows : List Row) → IsWellFormed rows → HasTaken rows old
      → IsTakenAfter rows row result new
