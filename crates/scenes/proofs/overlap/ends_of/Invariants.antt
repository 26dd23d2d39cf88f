use Rattle.std.proofs.Common.{take}
use Rattle.scenes.specs.Overlaps.{AreEnds}
use Rattle.scenes.proofs.overlap.ends_of.Given as goal

abbrev pub invariant-loop-k : goal.invariant-loop-k
invariant-loop-k l = AreEnds (take l.k l.part) l.ends.items
