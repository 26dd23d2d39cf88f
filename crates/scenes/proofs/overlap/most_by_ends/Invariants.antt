use Rattle.scenes.proofs.Overlaps.{SoFar}
use Rattle.scenes.proofs.overlap.most_by_ends.Given as goal

abbrev pub invariant-loop-k : goal.invariant-loop-k
invariant-loop-k l = SoFar l.part l.k l.most
