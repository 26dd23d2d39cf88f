use Rattle.parallel_keys.proofs.Apart.{ApartSoFar}
use Rattle.parallel_keys.proofs.distinct.are_distinct.Given as goal

abbrev pub invariant-loop-place : goal.invariant-loop-place
invariant-loop-place l = ApartSoFar l.orders l.place l.keys
