use Rattle.scenes.proofs.OrderDots.{DotsSoFar}
use Rattle.scenes.proofs.dots.dots_of.Given as goal

abbrev pub invariant-loop-number : goal.invariant-loop-number
invariant-loop-number l = DotsSoFar l.order l.points l.bars l.number l.dots.items
