-- What a script's run tries, each with what came of it: a step that was taken, with the systems
-- before and after it; a step that was refused, which changes nothing; or to finish a call, which
-- can't be done and changes nothing either.
use Rattle.std.specs.Prelude.{ℕ, ◌≡◌, List, [], ◌∷◌, flat_map, Option, None, Some}
use Rattle.world_settle.specs.declared.errors.SettleError.{SettleError}
use Rattle.world_steps.specs.Refusals.{refusal_of}
use Rattle.world_steps.specs.Systems.{system_after}
use Rattle.world_steps.specs.declared.refusal.Refusal.{Refusal}
use Rattle.world_steps.specs.declared.step.Step.{Step}
use Rattle.world_steps.specs.declared.system.System.{System}
use Rattle.script_runs.specs.Events.{Event, HappensAll, notices, tries}
use Rattle.script_runs.specs.declared.command.NumberedCommand.{NumberedCommand}
use Rattle.script_runs.specs.declared.notice.Notice.{Notice}
use Rattle.script_runs.specs.declared.notice.Notice.TheVariants as notice
use Rattle.script_runs.specs.declared.origin.Origin.{Origin}

-- a step that was taken, where it comes from, and the systems before and after it
pub record TakenStep : Type 0 where
  pub origin : Origin
  pub before : System
  pub step : Step
  pub after : System

-- what was tried: a step that was taken, a step that was refused, or to finish the pending call of
-- the client of that name, by the command of that line
pub data Tried : Type 0 where
  took : (t : TakenStep) → Tried
  refused : (origin : Origin) (step : Step) (why : Refusal) → Tried
  unfinished : (line name : ℕ) (why : SettleError) → Tried

-- the step as the system takes it
abbrev pub taken_step : Origin → System → Step → TakenStep
taken_step origin s step =
    record { origin = origin; before = s; step = step; after = system_after s step }

-- the step as it is taken, or refused for that reason
abbrev pub tried_unless : Origin → System → Step → Option Refusal → Tried
tried_unless origin s step None = took (taken_step origin s step)
tried_unless origin s step (Some why) = refused origin step why

-- the step as it is tried in the system
unfoldable pub tried_of : Origin → System → Step → Tried
tried_of origin s step = tried_unless origin s step (refusal_of s step)

-- what was tried and couldn't be done, if there is that to say of the command of that line
abbrev pub unfinished_by : ℕ → Notice → List Tried
unfinished_by line (notice.Unfinished name why) = unfinished line name why ∷ []
unfinished_by line other = []

-- what is tried by what happens
abbrev pub tried_in : Event → List Tried
tried_in (tries origin s step) = tried_of origin s step ∷ []
tried_in (notices line notice) = unfinished_by line notice

-- by what happens by the commands, one after another, that is tried
pub record TriesAll (first : System) (commands : List NumberedCommand) (last : System)
    (tried : List Tried) : Type 0 where
  pub events : List Event
  pub happen : HappensAll first commands last events
  pub are : tried ≡ flat_map tried_in events
