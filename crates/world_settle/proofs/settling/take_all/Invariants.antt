use Rattle.std.proofs.Common.{◌-◌}
use Rattle.world_settle.proofs.Forward.{Going}
use Rattle.world_settle.proofs.settling.take_all.Given as goal

-- so many of the steps are taken
abbrev pub invariant-loop-step : goal.invariant-loop-step
invariant-loop-step l = Going l.fn.world l.fn.client l.world l.steps l.count

abbrev pub decreases-loop-step : goal.decreases-loop-step
decreases-loop-step l = 100 - l.count
