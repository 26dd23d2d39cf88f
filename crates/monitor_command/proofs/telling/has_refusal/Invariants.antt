use Rattle.monitor_command.specs.Files.{HasNoRefusalBefore}
use Rattle.monitor_command.proofs.telling.has_refusal.Given as goal

abbrev pub invariant-loop-report : goal.invariant-loop-report
invariant-loop-report l = HasNoRefusalBefore l.report-index l.reports
