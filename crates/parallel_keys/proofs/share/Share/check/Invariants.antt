use Rattle.std.proofs.Common.{◌-◌}
use Rattle.parallel_keys.specs.Checks.{orders_in, parts_in}
use Rattle.parallel_keys.proofs.WorkerVerdicts.{VerdictsSoFar}
use Rattle.parallel_keys.proofs.share.Share.check.Given as goal

abbrev pub invariant-loop-index : goal.invariant-loop-index
invariant-loop-index g l = VerdictsSoFar (parts_in l.self.checks) (orders_in l.self.checks) l.self.worker l.self.workers l.index l.verdicts

abbrev pub decreases-loop-index : goal.decreases-loop-index
decreases-loop-index g l = l.self.checks.count - l.index
