-- The exit statuses.
use Rattle.std.specs.Prelude.{ℕ}
use Rattle.counted_devices.specs.declared.read_fault.FaultKind.{FaultKind}
use Rattle.counted_devices.specs.declared.read_fault.FaultKind.TheVariants as kind
use Rattle.cli.specs.declared.status.Status.{Status}
use Rattle.cli.specs.declared.status.Status.TheVariants.{Good, Refused, Usage, Format, Failed}
use Rattle.cli.specs.declared.status.Status.TheVariants.{Undecided}
use Rattle.cli.specs.declared.status.Failure.{Failure}
use Rattle.cli.specs.declared.status.Failure.TheVariants as failure

-- the exit status: 0 all is well, 1 a key is refused, 2 usage, 3 a file can't be opened or read as
-- its format, 4 memory, a device or a thread, 5 no key is refused and one is undecided
abbrev pub code_of : Status → ℕ
code_of Good = 0
code_of Refused = 1
code_of Usage = 2
code_of Format = 3
code_of Failed = 4
code_of Undecided = 5

-- a fault of a line is one of the file's format; a reader that fails and out of memory are none
abbrev pub status_of_kind : {L : Type 0} → FaultKind L → Status
status_of_kind (kind.Line fault) = Format
status_of_kind kind.Device = Failed
status_of_kind kind.Memory = Failed

-- a file that can't be opened or read as its format has status 3, any other failure 4
abbrev pub status_of : Failure → Status
status_of (failure.Closed name) = Format
status_of (failure.File name fault) = status_of_kind fault.kind
status_of (failure.Script name error) = status_of_kind error.kind
status_of failure.Output = Failed
status_of failure.Memory = Failed
status_of failure.Thread = Failed
