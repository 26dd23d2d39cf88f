use Rattle.linearization_points.proofs.RunningPoints.{Reached}
use Rattle.linearization_points.proofs.points.points_of.Given as goal

abbrev pub invariant-loop-op : goal.invariant-loop-op
invariant-loop-op l = Reached l.part l.order l.op-index l.points.items l.latest
