use Rattle.std.proofs.Common.{◌≡◌, length, take}
use Rattle.monitor_command.proofs.Marking.{AreUnmarked}
use Rattle.monitor_command.proofs.telling.unmark_refused.Given as goal

abbrev pub invariant-loop-report : goal.invariant-loop-report
invariant-loop-report l = record {
  many : length l.marks ≡ length l.initial.marks;
  each : AreUnmarked (take l.report-index l.reports) l.initial.marks l.marks;
}
