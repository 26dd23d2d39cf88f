-- The faults of files: faults of reading whose lines have these faults.
use Rattle.counted_devices.specs.declared.read_fault.ReadFault.{ReadFault}
use Rattle.counted_devices.specs.declared.read_fault.FaultKind as kinds
use Rattle.counted_devices.specs.declared.read_fault.Stop as stops
use Rattle.file_format.specs.declared.fault.LineFault.{LineFault}

-- a fault of reading, in a file whose lines have these faults
abbrev pub FileFault : Type 0
FileFault = ReadFault LineFault

-- what is wrong with such a file, or with its reading
abbrev pub FaultKind : Type 0
FaultKind = kinds.FaultKind LineFault

-- why the judgement of a line stopped: its fault, or memory ran out
abbrev pub LineStop : Type 0
LineStop = stops.Stop LineFault
