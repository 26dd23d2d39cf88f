use Rattle.world_steps.specs.Systems.{opening}
use Rattle.script_runs.proofs.Commands.{HasSeen}
use Rattle.script_runs.proofs.whole_run.observe.Given as goal

-- the commands so far were run and seen
abbrev pub invariant-loop-numbered : goal.invariant-loop-numbered
invariant-loop-numbered g l =
    HasSeen g.O.Observer.sees (opening l.fn.script.config) l.yielded l.fn.observer l.run.world l.run.observer
