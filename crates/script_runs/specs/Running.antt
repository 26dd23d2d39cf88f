-- A script's run under way.
use Rattle.std.specs.Prelude.{ℕ, ◌≡◌, List, length}
use Rattle.world_settle.specs.Settling.{AreSettleSteps}
use Rattle.world_steps.specs.Runs.{after_from}
use Rattle.world_steps.specs.declared.step.Step.{Step}
use Rattle.world_steps.specs.declared.system.System.{System}
use Rattle.script_runs.specs.declared.command.Command.{Command}
use Rattle.script_runs.specs.Events.{Event, Happens, tried}
use Rattle.script_runs.specs.Observing.{Observes}
use Rattle.script_runs.specs.Walks.{random_walk}
use Rattle.script_runs.specs.declared.origin.Origin.{Origin}

-- so many random steps of a seed lead there, so many of them taken
abbrev pub Walks : System → ℕ → ℕ → System → ℕ → Type 0
Walks old seed count new taken =
    (new ≡ (random_walk old seed count).system) × (taken ≡ (random_walk old seed count).taken)

module _ {O : Type 0} (sees : O → Event → O → Type 0) where
  -- the observer sees what happens by the command of that line
  pub record ObservesOn (old : O) (before : System) (line : ℕ) (command : Command) (new : O)
      (after : System) : Type 0 where
    pub events : List Event
    pub happens : Happens line before command after events
    pub observes : Observes sees old events new

  -- the observer sees the steps of that origin that complete the client's call, so many
  pub record ObservesSettling (origin : Origin) (name count : ℕ) (old : O)
      (before : System) (new : O) (after : System) : Type 0 where
    pub steps : List Step
    pub settles : AreSettleSteps name before steps
    pub counted : count ≡ length steps
    pub there : after ≡ after_from before steps
    pub observes : Observes sees old (tried origin before steps) new
