use Rattle.std.proofs.Common.{◌≤◌}
use Rattle.script_runs.specs.Events.{walk_tried}
use Rattle.script_runs.specs.Observing.{Observes}
use Rattle.script_runs.specs.Walks.{walk_after, walk_from}
use Rattle.script_runs.proofs.Walking.{IsWalkAt}
use Rattle.script_runs.proofs.script_run.ScriptRun.walk.Given as goal

-- so many steps of the walk were made and seen
abbrev pub invariant-loop-turn : goal.invariant-loop-turn
invariant-loop-turn g l = record {
  at : IsWalkAt (walk_after (walk_from l.fn.self.world l.seed) l._turn) l.self.world l.steps l.taken;
  few : l.taken ≤ l._turn;
  seen : Observes g.O.Observer.sees l.fn.self.observer (walk_tried l.origin (walk_from l.fn.self.world l.seed) l._turn) l.self.observer;
}
