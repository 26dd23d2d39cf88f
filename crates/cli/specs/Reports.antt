-- What a command says of its failure on standard error.
use Rattle.std.specs.Prelude.{ℕ, ◌≡◌, ◌≤◌, ◌⊎◌, List, Option}
use Rattle.counted_devices.specs.DeviceStates.{DeviceStates}
use Rattle.counted_devices.specs.FirstFaults.{StopsFrom}
use Rattle.counted_devices.specs.ReadFaults.{FailsFrom}
use Rattle.file_format.specs.Formats.{Format}
use Rattle.file_format.specs.HistoriesFormat.{histories_format}
use Rattle.file_format.specs.OrderFormat.{order_format}
use Rattle.fault_script.specs.Scripts.{script_faults}
use Rattle.fault_script.specs.Simulations.{Simulates}
use Rattle.cli.specs.Devices.{FailsOnce, FileStates, Receives, ReceivesOrFails}
use Rattle.cli.specs.Devices.{ReceivesPrefix, device_since, device_until}
use Rattle.cli.specs.FailureLines.{failure_line}
use Rattle.cli.specs.Readings.{IsHistoryRead, StopsFile}
use Rattle.cli.specs.Statuses.{status_of}
use Rattle.cli.specs.declared.status.Failure.{Failure}
use Rattle.cli.specs.declared.status.Failure.TheVariants as failure
use Rattle.cli.specs.declared.status.Status.{Status}
use Rattle.cli.specs.declared.status.Status.TheVariants as status

-- the line of a failure with that status, of which that holds, went out to standard error, or a
-- beginning of it and standard error failed
pub record ReportsFailure (Holds : Failure → Type 0) (errors : DeviceStates) (s : Status) : Type 0
  where
    pub failure : Failure
    pub ends : status_of failure ≡ s
    pub holds : Holds failure
    pub told : ReceivesOrFails errors (failure_line failure)

-- the failure is the fault of that file at which its reading stopped
abbrev pub IsFaultOf : {Header Item : Type 0} → Format Header Item → FileStates → Failure → Type 0
IsFaultOf format file (failure.File name fault) =
    (name.now ≡ file.name) × StopsFile format file.reader fault
IsFaultOf format file why = ⊥

-- the failure is a fault of the history, or one of the orders once the history was read
abbrev pub StopsReading : FileStates → FileStates → Failure → Type 0
StopsReading history orders why = IsFaultOf histories_format history why
    ⊎ (IsHistoryRead history.reader × IsFaultOf order_format orders why)

-- keys aren't checked by so many workers: out of memory, or no thread for a second worker
abbrev pub StopsKeys : ℕ → Failure → Type 0
StopsKeys workers failure.Memory = Unit {0}
StopsKeys workers failure.Thread = 2 ≤ workers
StopsKeys workers why = ⊥

-- a check isn't made: a file isn't read to its end, or its keys aren't checked
abbrev pub StopsCheck : FileStates → FileStates → ℕ → Failure → Type 0
StopsCheck history orders workers why = StopsReading history orders why ⊎ StopsKeys workers why

-- nothing is made of both files: one isn't read to its end, or out of memory
abbrev pub StopsBoth : FileStates → FileStates → Failure → Type 0
StopsBoth history orders why = StopsReading history orders why ⊎ (why ≡ failure.Memory)

-- nothing is made of a history alone: it isn't read to its end, or out of memory
abbrev pub StopsHistory : FileStates → Failure → Type 0
StopsHistory history why = IsFaultOf histories_format history why ⊎ (why ≡ failure.Memory)

-- the failure is the fault of that script at which its reading stopped
abbrev pub IsScriptFault : FileStates → Failure → Type 0
IsScriptFault file (failure.Script name error) = (name.now ≡ file.name)
    × StopsFrom script_faults file.reader error × FailsFrom file.reader error
IsScriptFault file why = ⊥

-- a script isn't run for such a fault; or out of memory, of which no more is said
abbrev pub IsOfScript : FileStates → Failure → Type 0
IsOfScript file (failure.Script name error) = IsScriptFault file (failure.Script name error)
IsOfScript file failure.Memory = Unit {0}
IsOfScript file why = ⊥

-- standard error failed after a beginning of the messages; or they went out, and the output failed
abbrev pub FailsAmid : DeviceStates → DeviceStates → List ℕ → Type 0
FailsAmid messages out said = (ReceivesPrefix messages said × FailsOnce messages)
    ⊎ (Receives messages said × FailsOnce out)

module _ (file : FileStates) (out errors : DeviceStates) where
  -- a device failed amid the messages of the script's run and its history, and after what standard
  -- error had then stands the line that says so
  pub record ReportsOutput : Type 0 where
    pub between : Option (List ℕ)
    pub failures_between : ℕ
    pub broke : Simulates file.reader
        (λ said text. FailsAmid (device_until errors between failures_between) out said)
    pub told : ReceivesOrFails (device_since errors between failures_between)
        (failure_line failure.Output)

  -- what the status of a simulation says of standard error. Good: all messages of the script's run
  -- went there. Format or failed: the report of a fault of the script or of out of memory, and no
  -- message; or some messages, and the report of a device
  abbrev pub ReportsSimulation : Status → Type 0
  ReportsSimulation status.Good = Simulates file.reader (λ said text. Receives errors said)
  ReportsSimulation status.Refused = ⊥
  ReportsSimulation status.Usage = ⊥
  ReportsSimulation status.Undecided = ⊥
  ReportsSimulation status.Format = ReportsFailure (IsOfScript file) errors status.Format
  ReportsSimulation status.Failed =
      ReportsFailure (IsOfScript file) errors status.Failed ⊎ ReportsOutput
