use Rattle.std.proofs.Common.{take}
use Rattle.scenes.specs.Scenes.{AreBegunBars}
use Rattle.scenes.proofs.bars.bars_of.Given as goal

abbrev pub invariant-loop-i : goal.invariant-loop-i
invariant-loop-i l = AreBegunBars l.part (take l.i-index l.shown) l.history.rows l.lanes l.bars.items
