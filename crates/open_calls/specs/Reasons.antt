-- Refusals here beside those of a history.
use Rattle.std.specs.Prelude.{◌≡◌, List}
use Rattle.recorder.specs.declared.row.Row.{Row}
use Rattle.recorder.specs.declared.row.Row.TheVariants.{Invoke}
use Rattle.recorder.specs.declared.row.RowRefusal.{RowRefusal}
use Rattle.recorder.specs.declared.row.RowRefusal.TheVariants as refusal
use Rattle.recorder.specs.Histories.{call_count}
use Rattle.open_calls.specs.declared.refusal.CallRefusal.{CallRefusal}
use Rattle.open_calls.specs.declared.refusal.CallRefusal.TheVariants.{OutOfTurn, ClientBusy}
use Rattle.open_calls.specs.declared.refusal.CallRefusal.TheVariants.{NotPending, WrongKind}
use Rattle.open_calls.specs.declared.refusal.CallRefusal.TheVariants.{NoteTwice, Memory}

-- a call that the row begins has the next number
abbrev pub IsInTurn : List Row → Row → Type 0
IsInTurn rows (Invoke op client key action) = op.0 ≡ call_count rows
IsInTurn rows row = Unit {0}

-- a history's reason, as it is named here: no call is next where a history has all it may have
abbrev pub reason_of : RowRefusal → CallRefusal
reason_of refusal.OpsFull = OutOfTurn
reason_of refusal.ClientBusy = ClientBusy
reason_of refusal.NotPending = NotPending
reason_of refusal.WrongKind = WrongKind
reason_of refusal.NoteTwice = NoteTwice
reason_of refusal.Memory = Memory
