-- What becomes of an observer by what happens in a run.
use Rattle.std.specs.Prelude.{List, [], ◌∷◌, ◌++◌}
use Rattle.world_steps.specs.Systems.{opening}
use Rattle.world_steps.specs.declared.system.System.{System}
use Rattle.script_runs.specs.declared.command.Script.{Script}
use Rattle.script_runs.specs.Events.{Event, HappensAll}

module _ {O : Type 0} (sees : O → Event → O → Type 0) where
  -- the observer sees what happens, one after another
  pub data Observes : O → List Event → O → Type 0 where
    nothing : (o : O) → Observes o [] o
    first : (old mid new : O) (event : Event) (events : List Event) → sees old event mid
        → Observes mid events new → Observes old (event ∷ events) new

  -- it sees all that happens in a run of the script, which leaves that system
  pub record ObservesRun (script : Script) (last : System) (old new : O) : Type 0 where
    pub events : List Event
    pub happen : HappensAll (opening script.config) script.commands.items last events
    pub observes : Observes old events new

-- what an observer makes of items is made of further ones, too, by what happens: of those that the
-- event adds
abbrev pub Adds : {O P A : Type 0} → (P → List A → O → Type 0) → (Event → List A) → O → Event → O
    → Type 0
Adds {O} {P} {A} Makes items_of old event new =
    (p : P) (items : List A) → Makes p items old → Makes p (items ++ items_of event) new
