use Rattle.std.proofs.Common.{length}
use Rattle.counted_devices.proofs.Chunks.{Shown}
use Rattle.fault_script.specs.LineItems.{ScriptLineShows}
use Rattle.fault_script.proofs.lines.judge_lines.Given as goal

abbrev pub invariant-loop-end : goal.invariant-loop-end
invariant-loop-end l = record { shown : Shown ScriptLineShows l.chunk l.run.items l.rest }

abbrev pub decreases-loop-end : goal.decreases-loop-end
decreases-loop-end l = length l.rest
