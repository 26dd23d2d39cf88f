use Rattle.std.proofs.Common.{take}
use Rattle.scenes.specs.FirstFit.{AreLastEnds}
use Rattle.scenes.proofs.first_fit.last_ends.Given as goal

abbrev pub invariant-loop-bar : goal.invariant-loop-bar
invariant-loop-bar l = AreLastEnds l.fn.lanes (take l.bar-index l.bars) l.ends.items
