use Rattle.parallel_keys.specs.Checks.{orders_in, parts_in}
use Rattle.parallel_keys.proofs.Woven.{VerdictsSoFar}
use Rattle.parallel_keys.proofs.weave_verdicts.weave.Given as goal

abbrev pub invariant-loop-index : goal.invariant-loop-index
invariant-loop-index l = VerdictsSoFar (parts_in l.checks) (orders_in l.checks) l.index l.verdicts.items
