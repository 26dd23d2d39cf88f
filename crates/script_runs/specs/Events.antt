-- What happens in a run of a script: the steps that are tried, each in its system, and what there
-- is to say of commands that take several. A step that is refused is tried, too, and changes
-- nothing.
use Rattle.std.specs.Prelude.{ℕ, zero, suc, List, [], ◌∷◌, ◌++◌, length}
use Rattle.random_steps.specs.Choices.{draw, step_of}
use Rattle.world_settle.specs.Refusing.{IsUnsettled, MaySettle}
use Rattle.world_settle.specs.Settling.{AreSettleSteps}
use Rattle.world_settle.specs.declared.errors.SettleError.{SettleError}
use Rattle.world_steps.specs.Runs.{after_from, next}
use Rattle.world_steps.specs.declared.step.Step.{Step}
use Rattle.world_steps.specs.declared.system.System.{System}
use Rattle.script_runs.specs.Walks.{Walk, random_walk, walk_after, walk_from}
use Rattle.script_runs.specs.declared.command.Command.{Command}
use Rattle.script_runs.specs.declared.command.Command.TheVariants as command
use Rattle.script_runs.specs.declared.command.NumberedCommand.{NumberedCommand}
use Rattle.script_runs.specs.declared.notice.Notice.{Notice}
use Rattle.script_runs.specs.declared.notice.Notice.TheVariants as notice
use Rattle.script_runs.specs.declared.origin.CommandKind.{CommandKind}
use Rattle.script_runs.specs.declared.origin.CommandKind.TheVariants as kind
use Rattle.script_runs.specs.declared.origin.Origin.{Origin}

-- a step of that origin is tried in the system; or there is that to say of the command of the line
pub data Event : Type 0 where
  tries : (origin : Origin) (before : System) (step : Step) → Event
  notices : (line : ℕ) (notice : Notice) → Event

-- steps that are tried one after another
abbrev pub tried : Origin → System → List Step → List Event
tried origin s [] = []
tried origin s (step ∷ steps) = tries origin s step ∷ tried origin (next s step) steps

-- the last of a walk's random steps
abbrev pub stride_tried : Origin → Walk → Event
stride_tried origin walk = tries origin walk.system (step_of walk.system (draw walk.generator))

-- so many random steps of a walk
abbrev pub walk_tried : Origin → Walk → ℕ → List Event
walk_tried origin walk zero = []
walk_tried origin walk (suc n) =
    walk_tried origin walk n ++ stride_tried origin (walk_after walk n) ∷ []

-- a command of that kind, of the line of that number
abbrev pub of_line : ℕ → CommandKind → Origin
of_line line kind = record { line = line; kind = kind }

-- what the command of that line makes of the system, and what happens
pub data Happens (line : ℕ) : System → Command → System → List Event → Type 0 where
  steps : (s : System) (step : Step)
      → Happens line s (command.Step step) (next s step) (tries (of_line line kind.Step) s step ∷ [])
  finishes : (s : System) (name : ℕ) (steps : List Step) → MaySettle s name
      → AreSettleSteps name s steps
      → Happens line s (command.Finish name) (after_from s steps)
      (notices line (notice.Finishes name) ∷ tried (of_line line (kind.Finish name)) s steps
      ++ notices line (notice.Finished (length steps)) ∷ [])
  stays : (s : System) (name : ℕ) (why : SettleError) → IsUnsettled s name why
      → Happens line s (command.Finish name) s
      (notices line (notice.Unfinished name why) ∷ [])
  randomly : (s : System) (seed count : ℕ)
      → Happens line s (command.Random seed count) (random_walk s seed count).system
      (notices line (notice.Randomizes seed count)
      ∷ walk_tried (of_line line (kind.Random seed count)) (walk_from s seed) count
      ++ notices line (notice.Randomized (random_walk s seed count).taken count) ∷ [])

-- the commands one after another, and what happens
pub data HappensAll : System → List NumberedCommand → System → List Event → Type 0 where
  done : (s : System) → HappensAll s [] s []
  goes : (s mid last : System) (numbered : NumberedCommand) (others : List NumberedCommand)
      (events further : List Event) → Happens numbered.line s numbered.command mid events
      → HappensAll mid others last further → HappensAll s (numbered ∷ others) last (events ++ further)
