-- The numbers and the texts of faults of lines, and those of why a script wasn't simulated, as
-- programs print them.
use Rattle.std.specs.Prelude.{ℕ, List, codes}
use Rattle.fault_script.specs.declared.fault.LineFault.{LineFault}
use Rattle.fault_script.specs.declared.fault.LineFault.TheVariants.{NotUtf8, NoReplicas}
use Rattle.fault_script.specs.declared.fault.LineFault.TheVariants.{UnknownCommand, Range, TooLong}
use Rattle.fault_script.specs.declared.fault.LineFault.TheVariants.{TooManyCommands}
use Rattle.fault_script.specs.declared.simulate_script.SimulateError.{SimulateError}
use Rattle.fault_script.specs.declared.simulate_script.SimulateError.TheVariants as error

-- the number of a line's fault, and its text
abbrev pub numbered_text : LineFault → ℕ × List ℕ
numbered_text NotUtf8 = (1, codes "not UTF-8")
numbered_text NoReplicas = (2, codes "no replicas")
numbered_text UnknownCommand = (3, codes "unknown command")
numbered_text Range = (4, codes "range")
numbered_text TooLong = (5, codes "line too long")
numbered_text TooManyCommands = (6, codes "too many commands")

-- the number of a line's fault
abbrev pub line_fault_number : LineFault → ℕ
line_fault_number fault = (numbered_text fault).0

-- the text of a line's fault
abbrev pub line_fault_text : LineFault → List ℕ
line_fault_text fault = (numbered_text fault).1

-- the number of why a script wasn't simulated
abbrev pub simulate_error_number : SimulateError → ℕ
simulate_error_number (error.Script why) = 1
simulate_error_number error.Memory = 2
simulate_error_number error.Device = 3
