-- The fault of a line whose row is refused.
use Rattle.std.specs.Prelude.{List, Result, Ok, Err}
use Rattle.counted_devices.specs.declared.read_fault.Stop.TheVariants as stop
use Rattle.recorder.specs.declared.row.Row.{Row}
use Rattle.recorder.specs.Histories.{MayFollow}
use Rattle.file_format.specs.declared.fault.LineFault.TheVariants as fault
use Rattle.file_format.specs.Faults.{LineStop}
use Rattle.file_format.specs.LongHistories.{IsMisplacedInLong}
use Rattle.open_calls.specs.declared.refusal.CallRefusal.{CallRefusal}
use Rattle.open_calls.specs.declared.refusal.CallRefusal.TheVariants as refusal

-- a refused row's reason, as a fault of its line
abbrev pub stop_of : CallRefusal → LineStop
stop_of refusal.OutOfTurn = stop.Fault fault.CallOutOfTurn
stop_of refusal.ClientBusy = stop.Fault fault.ClientBusy
stop_of refusal.NotPending = stop.Fault fault.CallNotPending
stop_of refusal.WrongKind = stop.Fault fault.WrongKind
stop_of refusal.NoteTwice = stop.Fault fault.NoteTwice
stop_of refusal.Memory = stop.Memory

-- what is answered to a row, as it is answered to its line
abbrev pub line_answer : {X : Type 0} → Result X CallRefusal → Result X LineStop
line_answer (Ok taken) = Ok taken
line_answer (Err refusal) = Err (stop_of refusal)

-- the row has that fault after those rows; memory is wanted only for a row without one
abbrev pub IsStoppedAfter : List Row → Row → LineStop → Type 0
IsStoppedAfter rows row (stop.Fault fault) = IsMisplacedInLong rows row fault
IsStoppedAfter rows row stop.Memory = MayFollow rows row
