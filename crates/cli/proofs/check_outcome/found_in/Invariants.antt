use Rattle.cli.specs.VerdictStatuses.{AreYes}
use Rattle.cli.proofs.check_outcome.found_in.Given as goal

abbrev pub invariant-loop-told : goal.invariant-loop-told
invariant-loop-told l = AreYes l.verdicts l.told-index
