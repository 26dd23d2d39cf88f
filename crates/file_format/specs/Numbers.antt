-- The numbers and the texts of faults of lines, as programs print them.
use Rattle.std.specs.Prelude.{ℕ, List, codes}
use Rattle.file_format.specs.declared.fault.LineFault.{LineFault}
use Rattle.file_format.specs.declared.fault.LineFault.TheVariants.{NotJson, NoHeader, Version}
use Rattle.file_format.specs.declared.fault.LineFault.TheVariants.{Member, Range, CallOutOfTurn}
use Rattle.file_format.specs.declared.fault.LineFault.TheVariants.{ClientBusy, CallNotPending}
use Rattle.file_format.specs.declared.fault.LineFault.TheVariants.{WrongKind, NoteTwice, TooLong}
use Rattle.file_format.specs.declared.fault.LineFault.TheVariants.{TooManyCalls, KeyInAnotherHall}

-- the number of a line's fault
abbrev pub line_fault_number : LineFault → ℕ
line_fault_number NotJson = 1
line_fault_number NoHeader = 2
line_fault_number Version = 3
line_fault_number Member = 4
line_fault_number Range = 5
line_fault_number CallOutOfTurn = 6
line_fault_number ClientBusy = 7
line_fault_number CallNotPending = 8
line_fault_number WrongKind = 9
line_fault_number NoteTwice = 10
line_fault_number TooLong = 11
line_fault_number TooManyCalls = 12
line_fault_number KeyInAnotherHall = 15

-- the text of a line's fault
abbrev pub line_fault_text : LineFault → List ℕ
line_fault_text NotJson = codes "not JSON"
line_fault_text NoHeader = codes "no header"
line_fault_text Version = codes "version"
line_fault_text Member = codes "member"
line_fault_text Range = codes "range"
line_fault_text CallOutOfTurn = codes "call out of turn"
line_fault_text ClientBusy = codes "client busy"
line_fault_text CallNotPending = codes "call not pending"
line_fault_text WrongKind = codes "response of the wrong kind"
line_fault_text NoteTwice = codes "note twice"
line_fault_text TooLong = codes "line too long"
line_fault_text TooManyCalls = codes "too many calls"
line_fault_text KeyInAnotherHall = codes "key in another hall"
