-- What is said of runs, and what they leave.
use Rattle.std.proofs.Common.{ℕ, ◌≡◌, List, [], ◌++◌, flat_map, sym, ap, ◌∙◌, append_assoc, append-nil}
use Rattle.recorder.specs.declared.row.Row.{Row}
use Rattle.world_steps.specs.Systems.{opening}
use Rattle.world_steps.specs.declared.system.System.{System}
use Rattle.script_runs.specs.Events.{Event, HappensAll}
use Rattle.script_runs.specs.Observing.{Observes, ObservesRun}
use Rattle.script_runs.specs.Observing.Observes.{first, nothing}
use Rattle.script_runs.specs.declared.command.NumberedCommand.{NumberedCommand}
use Rattle.script_runs.specs.declared.command.Script.{Script}
use Rattle.fault_script.specs.ScriptRuns.{IsRunOf, RunsAll, message_of}
use Rattle.fault_script.specs.Telling.{TellsOn}
use Rattle.fault_script.specs.declared.messages.Messages.{Messages}

-- what is said of all that happens
said_on : (old new : Messages) (events : List Event) → Observes TellsOn old events new
    → new.text.items ≡ old.text.items ++ flat_map message_of events
said_on old new events (nothing o) = sym (append-nil o.text.items)
said_on old new events (first start mid end event others one rest) =
    said_on mid end others rest ∙ ap (λ (t : List ℕ). t ++ flat_map message_of others) one
    ∙ append_assoc start.text.items (message_of event) (flat_map message_of others)

pub run_said : (script : Script) (last : System) (old new : Messages) → old.text.items ≡ [] → ObservesRun TellsOn script last old new
    → RunsAll (opening script.config) script.commands.items last new.text.items
run_said script last old new none run = record {
  events = run.events;
  happen = run.happen;
  are = said_on old new run.events run.observes ∙ ap (λ (t : List ℕ). t ++ flat_map message_of run.events) none;
}

-- a script has one run, as its commands have
pub run_once : ((a b c : System) (commands : List NumberedCommand) (m n : List Event) → HappensAll a commands b m → HappensAll a commands c n → (b ≡ c) × (m ≡ n))
    → (script : Script) (rows others : List Row) (messages told : List ℕ) → IsRunOf script rows messages → IsRunOf script others told
    → (rows ≡ others) × (messages ≡ told)
run_once once script rows others messages told h k =
    let w = once (opening script.config) h.last k.last script.commands.items h.runs.events k.runs.events h.runs.happen k.runs.happen in
    (sym h.recorded ∙ ap (λ (s : System). s.history.rows) w.0 ∙ k.recorded, h.runs.are ∙ ap (flat_map message_of) w.1 ∙ sym k.runs.are)
