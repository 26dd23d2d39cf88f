use Rattle.monitor_command.specs.Files.{HasNoRefusalBefore}
use Rattle.monitor_command.proofs.telling.first_untold.Given as goal

abbrev pub invariant-loop-number : goal.invariant-loop-number
invariant-loop-number l = HasNoRefusalBefore l.number l.reports
