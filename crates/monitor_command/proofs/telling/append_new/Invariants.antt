use Rattle.std.proofs.Common.{◌≡◌, ◌<◌, ◌≤◌, ℕ, Some, false}
use Rattle.std.specs.List.{slice_get}
use Rattle.record_monitor.specs.declared.report.Report.{Report}
use Rattle.record_monitor.specs.Monitored.{reports_of}
use Rattle.monitor_command.specs.Tellings.{is_refusal}
use Rattle.monitor_command.proofs.telling.append_new.Given as goal

abbrev pub invariant-loop-number : goal.invariant-loop-number
invariant-loop-number l = l.asked.all ≡ false → (n : ℕ) (report : Report) → l.told ≤ n → n < l.number
    → slice_get (reports_of l.monitor) n ≡ Some report → is_refusal report.finding ≡ false
