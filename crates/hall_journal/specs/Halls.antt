-- Halls: a world with the journal of the steps that it took, as the log of a replicated state
-- machine (Schneider 1990) with one machine.
use Rattle.std.specs.Prelude.{ℕ, ◌≡◌, ◌≤◌, ◌+◌, ◌⊎◌, List, [], ◌∷◌, ◌++◌, None, Some, Result, Ok}
use Rattle.std.specs.Prelude.{Err}
use Rattle.world_steps.specs.Clients.{Members, running_count}
use Rattle.world_steps.specs.Configs.{Config}
use Rattle.world_steps.specs.Refusals.{refusal_of}
use Rattle.world_steps.specs.Runs.{AreAccepted, after}
use Rattle.world_steps.specs.Systems.{effect_of, system_after, opening}
use Rattle.world_steps.specs.declared.effect.Effect.{Effect}
use Rattle.world_steps.specs.declared.refusal.Refusal.{Refusal}
use Rattle.world_steps.specs.declared.refusal.Refusal.TheVariants as refusal
use Rattle.world_steps.specs.declared.step.Step.{Step}
use Rattle.world_steps.specs.declared.step.Step.TheVariants as step
use Rattle.world_steps.specs.declared.system.System.{System}

-- the most elements that a list of a program has
abbrev pub most_elements : ℕ
most_elements = 9223372036854775807

-- the configuration, the world, and the steps that the world took, the first first
pub record Hall : Type 0 where
  pub config : Config
  pub world : System
  pub journal : List Step

-- before the first step
abbrev pub opening_hall : Config → Hall
opening_hall config = record { config = config; world = opening config; journal = [] }

-- the world is what the journal's steps make of the opening one, and each of them was accepted
pub record IsReplay (hall : Hall) : Type 0 where
  pub is : hall.world ≡ after hall.config hall.journal
  pub accepted : AreAccepted (opening hall.config) hall.journal

-- the hall that took a step more
abbrev pub with_step : Hall → Step → Hall
with_step hall step =
    record hall { world = system_after hall.world step; journal = hall.journal ++ step ∷ [] }

-- a step that the hall may refuse for memory: any but a client's stop, which has its room in the
-- journal since the client joined
abbrev pub MayWantMemory : Step → Type 0
MayWantMemory (step.StopClient name) = ⊥
MayWantMemory other = Unit {0}

-- the step is refused as the table says; or nothing refuses it but an allocation that failed
abbrev pub IsRefused : System → Step → Refusal → Type 0
IsRefused s step why = (refusal_of s step ≡ Some why)
    ⊎ ((refusal_of s step ≡ None) × (why ≡ refusal.Memory) × MayWantMemory step)

-- the hall took the step and added it to its journal, or refused it and stays as it was
abbrev pub TakesOrRefuses : Hall → Step → Result Effect Refusal → Hall → Type 0
TakesOrRefuses old step (Ok effect) new = (refusal_of old.world step ≡ None)
    × (effect_of old.world step ≡ Some effect) × (new ≡ with_step old step)
TakesOrRefuses old step (Err why) new = IsRefused old.world step why × (new ≡ old)

-- at most so many clients run, and after so many steps the journal has room for the stop of each
pub record HasRoomForStops (members : Members) (running steps capacity : ℕ) : Type 0 where
  pub counted : running_count members ≤ running
  pub free : steps + running ≤ capacity
