-- What the run of a script comes to.
use Rattle.std.specs.Prelude.{ℕ, ◌⊎◌}
use Rattle.counted_devices.specs.Deliveries.{Delivers}
use Rattle.counted_devices.specs.DeviceStates.{DeviceStates}
use Rattle.counted_devices.specs.FirstFaults.{StopsWith}
use Rattle.fault_script.specs.Scripts.{script_faults}
use Rattle.fault_script.specs.Simulations.{Simulates}
use Rattle.fault_script.specs.declared.fault.LineFault.{LineFault}
use Rattle.counted_devices.specs.declared.read_fault.FaultKind.TheVariants as kind
use Rattle.cli.specs.declared.status.Status.{Status}
use Rattle.cli.specs.declared.status.Status.TheVariants as status
use Rattle.cli.specs.Devices.{FailsOnce, Receives, ReceivesNothing, ReceivesPrefix}

-- a line that the script's reader gave is the first with a fault
pub record IsFaultyScript (script : DeviceStates) : Type 0 where
  pub line : ℕ
  pub fault : LineFault
  pub stops : Delivers script.old script.new
      (StopsWith script_faults script.new line (kind.Line fault))

module _ (script out messages : DeviceStates) where
  -- what the status of a simulation says. Good: the script was run, and its messages and its
  -- history went out. Format: it has a faulty line. Failed: nothing of the history went out, or the
  -- output failed after a beginning of it
  abbrev pub EndsSimulation : Status → Type 0
  EndsSimulation status.Good =
      Simulates script (λ said text. Receives messages said × Receives out text)
  EndsSimulation status.Refused = ⊥
  EndsSimulation status.Usage = ⊥
  EndsSimulation status.Undecided = ⊥
  EndsSimulation status.Format = IsFaultyScript script
  EndsSimulation status.Failed = ReceivesNothing out
      ⊎ (Simulates script (λ said text. ReceivesPrefix out text) × FailsOnce out)
