-- How the program ends if the words of a command line make no command.
use Rattle.std.specs.Prelude.{◌≡◌, List, ℕ, [], string_bytes}
use Rattle.command_line.specs.declared.asked.Usage.{Usage}
use Rattle.command_line.specs.declared.asked.Usage.TheVariants as usage
use Rattle.cli.specs.Devices.{ReceivesOrFails, WriterStates}
use Rattle.cli.specs.FailureLines.{failure_line}
use Rattle.cli.specs.Outcomes.{Ends}
use Rattle.cli.specs.declared.outcome.Found.TheVariants as found
use Rattle.cli.specs.declared.outcome.Outcome.{Outcome}
use Rattle.cli.specs.declared.status.Failure.TheVariants as failure
use Rattle.cli.specs.declared.status.Status.{Status}
use Rattle.cli.specs.declared.status.Status.TheVariants as status

-- the outcome is good: that text, and nothing for standard error
pub record IsShown (text : List ℕ) (outcome : Outcome) : Type 0 where
  pub good : outcome.found ≡ found.Good
  pub is : outcome.text.items ≡ text
  pub quiet : outcome.notes.items ≡ []

module _ {W E : Type 0} (out : WriterStates W) (errors : WriterStates E) where
  -- it ends with that status, and the text is all that is said, on standard error
  pub record EndsSaying (its : Status) (text : List ℕ) (s : Status) : Type 0 where
    pub status_is : s ≡ its
    pub quiet : out.new ≡ out.old
    pub told : ReceivesOrFails errors.device text

-- how the program ends: help and the version go to the output, a fault to standard error
abbrev pub EndsUsage : Usage → {W E : Type 0} → WriterStates W → WriterStates E → Status → Type 0
EndsUsage (usage.Help text) out errors s =
    Ends (IsShown (string_bytes text)) (λ why. ⊥) out errors s
EndsUsage (usage.Version text) out errors s =
    Ends (IsShown (string_bytes text)) (λ why. ⊥) out errors s
EndsUsage (usage.Fault text) out errors s =
    EndsSaying out errors status.Usage (string_bytes text) s
EndsUsage usage.Memory out errors s =
    EndsSaying out errors status.Failed (failure_line failure.Memory) s
