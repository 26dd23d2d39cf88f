use Rattle.cli.specs.VerdictStatuses.{AreYes}
use Rattle.run_command.proofs.check_record.first_no.Given as goal

abbrev pub invariant-loop-told : goal.invariant-loop-told
invariant-loop-told l = AreYes l.verdicts l.told-index
