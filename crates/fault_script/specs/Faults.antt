-- The errors of scripts: faults of reading whose lines have the faults of a script.
use Rattle.counted_devices.specs.declared.read_fault.ReadFault.{ReadFault}
use Rattle.counted_devices.specs.declared.read_fault.FaultKind.{FaultKind}
use Rattle.fault_script.specs.declared.fault.LineFault.{LineFault}

-- an error of a script: its line, and what is wrong
abbrev pub ScriptError : Type 0
ScriptError = ReadFault LineFault

-- what is wrong: a fault of a line, the device, or want of memory
abbrev pub ErrorKind : Type 0
ErrorKind = FaultKind LineFault
