use Rattle.std.proofs.Common.{◌-◌}
use Rattle.script_runs.proofs.SettleSteps.{Under}
use Rattle.script_runs.proofs.script_run.ScriptRun.settle.Given as goal

-- so many of the steps are taken and seen
abbrev pub invariant-loop-step : goal.invariant-loop-step
invariant-loop-step g l =
    Under g.O.Observer.sees l.origin l.fn.self.world l.fn.client l.fn.self.observer l.self.world l.steps l.count l.self.observer

abbrev pub decreases-loop-step : goal.decreases-loop-step
decreases-loop-step g l = 100 - l.count
