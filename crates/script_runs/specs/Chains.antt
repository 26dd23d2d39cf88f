-- The steps of a run in their order.
use Rattle.std.specs.Prelude.{ℕ, List, [], ◌∷◌}
use Rattle.world_steps.specs.Runs.{next}
use Rattle.world_steps.specs.declared.step.Step.{Step}
use Rattle.world_steps.specs.declared.system.System.{System}
use Rattle.script_runs.specs.Events.{Event, notices, tries}
use Rattle.script_runs.specs.declared.notice.Notice.{Notice}
use Rattle.script_runs.specs.declared.origin.Origin.{Origin}

-- each step is tried in the system that the steps before it left, from the first system to the last
pub data AreInOrder : System → List Event → System → Type 0 where
  over : (s : System) → AreInOrder s [] s
  then_step : (origin : Origin) (s : System) (step : Step) (events : List Event)
      (last : System) → AreInOrder (next s step) events last
      → AreInOrder s (tries origin s step ∷ events) last
  then_notice : (line : ℕ) (notice : Notice) (s : System) (events : List Event) (last : System)
      → AreInOrder s events last → AreInOrder s (notices line notice ∷ events) last
