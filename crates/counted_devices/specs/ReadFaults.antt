-- What a fault of reading says, whatever the faults of a line are.
use Rattle.std.specs.Prelude.{ℕ}
use Rattle.counted_devices.specs.declared.read_fault.FaultKind.{FaultKind}
use Rattle.counted_devices.specs.declared.read_fault.FaultKind.TheVariants as kind
use Rattle.counted_devices.specs.declared.read_fault.ReadFault.{ReadFault}
use Rattle.counted_devices.specs.declared.read_fault.Stop.{Stop}
use Rattle.counted_devices.specs.declared.read_fault.Stop.TheVariants as stop
use Rattle.counted_devices.specs.Counts.{IsOneMore}
use Rattle.counted_devices.specs.DeviceStates.{DeviceStates}

-- what a stop at a line is as a fault
abbrev pub kind_of : {L : Type 0} → Stop L → FaultKind L
kind_of (stop.Fault fault) = kind.Line fault
kind_of stop.Memory = kind.Memory

-- a line's fault is as the first says, a device's as the second; of want of memory nothing is said
abbrev pub IsFaultBy : {L : Type 0} → (L → Type 0) → Type 0 → FaultKind L → Type 0
IsFaultBy OfLine OfDevice (kind.Line fault) = OfLine fault
IsFaultBy OfLine OfDevice kind.Device = OfDevice
IsFaultBy OfLine OfDevice kind.Memory = Unit {0}

-- a device's fault comes only where the count of failures grew
abbrev pub HasFailed : {L : Type 0} → FaultKind L → ℕ → ℕ → Type 0
HasFailed kind.Device old new = IsOneMore old new
HasFailed k old new = Unit {0}

-- the same of a fault with its line, between two states of a reader
abbrev pub FailsFrom : {L : Type 0} → DeviceStates → ReadFault L → Type 0
FailsFrom reader fault = HasFailed fault.kind reader.failures reader.failures_now
