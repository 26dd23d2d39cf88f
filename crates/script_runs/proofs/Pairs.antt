-- What two observers see, each by itself.
use Rattle.std.proofs.Common.{List}
use Rattle.world_steps.specs.declared.system.System.{System}
use Rattle.script_runs.specs.Events.{Event}
use Rattle.script_runs.specs.Observing.{Observes, ObservesRun}
use Rattle.script_runs.specs.Observing.Observes.{first, nothing}
use Rattle.script_runs.specs.declared.command.Script.{Script}

-- an observer that is a part of another one, which sees no more than the part
module _ {P A : Type 0} (part : P → A) (sees : P → Event → P → Type 0) (Sees : A → Event → A → Type 0)
    (does : (old : P) (event : Event) (new : P) → sees old event new → Sees (part old) event (part new)) where
  part_seen : (old new : P) (events : List Event) → Observes sees old events new → Observes Sees (part old) events (part new)
  part_seen old new events (nothing o) = nothing (part o)
  part_seen old new events (first start mid end event others one rest) =
      first (part start) (part mid) (part end) event others (does start event mid one) (part_seen mid end others rest)

  pub part_run : (script : Script) (last : System) (old new : P) → ObservesRun sees script last old new
      → ObservesRun Sees script last (part old) (part new)
  part_run script last old new run = record {
    events = run.events;
    happen = run.happen;
    observes = part_seen old new run.events run.observes;
  }
