use Rattle.std.proofs.Common.{take}
use Rattle.scenes.specs.Ends.{AreReaching}
use Rattle.scenes.proofs.ends.reach_dots.Given as goal

abbrev pub invariant-loop-dot : goal.invariant-loop-dot
invariant-loop-dot l = AreReaching (take l.dot-index l.dots) l.fn.bars.items l.bars.items
