-- How a command ends that makes an outcome of its files and sends it: a text for its output, and
-- notes for standard error.
use Rattle.std.specs.Prelude.{◌≡◌, ◌⊎◌, Bool, true, false}
use Rattle.cli.specs.Devices.{FailsOnce, Receives, ReceivesOrFails, ReceivesPrefix, WriterStates}
use Rattle.cli.specs.Devices.{Writes}
use Rattle.cli.specs.FailureLines.{failure_line}
use Rattle.cli.specs.Statuses.{status_of}
use Rattle.cli.specs.declared.outcome.Found.{Found}
use Rattle.cli.specs.declared.outcome.Found.TheVariants as found
use Rattle.cli.specs.declared.outcome.Outcome.{Outcome}
use Rattle.cli.specs.declared.status.Failure.{Failure}
use Rattle.cli.specs.declared.status.Failure.TheVariants as failure
use Rattle.cli.specs.declared.status.Status.{Status}
use Rattle.cli.specs.declared.status.Status.TheVariants as status

-- what was found, if it is all as it should be, or else a key is refused
abbrev pub found_of : Bool → Found
found_of true = found.Good
found_of false = found.Refused

-- the status of a command whose outcome was sent
abbrev pub ended : Found → Status
ended found.Good = status.Good
ended found.Refused = status.Refused
ended found.Undecided = status.Undecided

module _ {W E : Type 0} (Makes : Outcome → Type 0) (Stops : Failure → Type 0)
    (out : WriterStates W) (errors : WriterStates E) where
  -- such an outcome was made: its text went out, and its notes went to standard error
  pub record SendsOutcome (its : Found) : Type 0 where
    pub outcome : Outcome
    pub made : Makes outcome
    pub is : outcome.found ≡ its
    pub text : Writes out Receives outcome.text.items
    pub notes : Writes errors ReceivesOrFails outcome.notes.items

  -- none was made, for such a failure: the output is as it was, and standard error says why
  pub record StopsBefore (s : Status) : Type 0 where
    pub failure : Failure
    pub ends : status_of failure ≡ s
    pub stops : Stops failure
    pub quiet : out.new ≡ out.old
    pub told : ReceivesOrFails errors.device (failure_line failure)

  -- the output failed once more, after a beginning of such an outcome's text; standard error says
  -- so
  pub record BreaksOff : Type 0 where
    pub outcome : Outcome
    pub made : Makes outcome
    pub begun : ReceivesPrefix out.device outcome.text.items
    pub fails : FailsOnce out.device
    pub told : ReceivesOrFails errors.device (failure_line failure.Output)

  -- what the status says. Good, refused or undecided: an outcome of that kind was sent. Format:
  -- none was made, since a file isn't of its format. Failed: none was made, or the output failed
  abbrev pub Ends : Status → Type 0
  Ends status.Good = SendsOutcome found.Good
  Ends status.Refused = SendsOutcome found.Refused
  Ends status.Undecided = SendsOutcome found.Undecided
  Ends status.Usage = ⊥
  Ends status.Format = StopsBefore status.Format
  Ends status.Failed = StopsBefore status.Failed ⊎ BreaksOff
