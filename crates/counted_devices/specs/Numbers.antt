-- The numbers of faults, as programs print them.
use Rattle.std.specs.Prelude.{ℕ}
use Rattle.counted_devices.specs.declared.write_fault.WriteFault.{WriteFault}
use Rattle.counted_devices.specs.declared.write_fault.WriteFault.TheVariants as write
use Rattle.counted_devices.specs.declared.read_fault.FaultKind.{FaultKind}
use Rattle.counted_devices.specs.declared.read_fault.FaultKind.TheVariants as kind

-- the number of a fault of writing
abbrev pub write_fault_number : WriteFault → ℕ
write_fault_number write.Device = 13
write_fault_number write.Memory = 14

-- the number of a fault of reading, where those of lines, of devices and of memory are these
abbrev pub fault_number : {L : Type 0} → (L → ℕ) → ℕ → ℕ → FaultKind L → ℕ
fault_number number device memory (kind.Line fault) = number fault
fault_number number device memory kind.Device = device
fault_number number device memory kind.Memory = memory
