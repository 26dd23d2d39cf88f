use Rattle.std.proofs.Common.{◌≡◌, take}
use Rattle.world_steps.specs.Runs.{after}
use Rattle.world_steps.specs.SoundSystems.{IsSound}
use Rattle.world_steps.proofs.running.run.Given as goal

abbrev pub invariant-loop-step : goal.invariant-loop-step
invariant-loop-step l = (l.world ≡ after l.fn.config (take l.step-index l.steps)) × IsSound l.world
