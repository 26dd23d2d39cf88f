-- The runs of a script, with what is said of them and what they record.
use Rattle.std.specs.Prelude.{ℕ, ◌≡◌, List, [], flat_map, Option, Some}
use Rattle.recorder.specs.declared.row.Row.{Row}
use Rattle.world_steps.specs.Refusals.{refusal_of}
use Rattle.world_steps.specs.Systems.{opening}
use Rattle.world_steps.specs.declared.refusal.Refusal.{Refusal}
use Rattle.world_steps.specs.declared.system.System.{System}
use Rattle.script_runs.specs.Events.{Event, HappensAll, notices, tries}
use Rattle.script_runs.specs.declared.command.NumberedCommand.{NumberedCommand}
use Rattle.script_runs.specs.declared.command.Script.{Script}
use Rattle.script_runs.specs.declared.notice.Notice.TheVariants as notice
use Rattle.script_runs.specs.declared.origin.CommandKind.{CommandKind}
use Rattle.script_runs.specs.declared.origin.CommandKind.TheVariants as kind
use Rattle.fault_script.specs.MessageTexts.{random_message, refused_message, unfinished_message}

-- what is said of a step of that line: why it is refused, if it is and the step is the command
abbrev pub step_message : ℕ → CommandKind → Option Refusal → List ℕ
step_message line kind.Step (Some why) = refused_message line why
step_message line other found = []

-- what is said of what happens
abbrev pub message_of : Event → List ℕ
message_of (tries origin s step) = step_message origin.line origin.kind (refusal_of s step)
message_of (notices line (notice.Unfinished name why)) = unfinished_message line why
message_of (notices line (notice.Randomized taken count)) = random_message line taken count
message_of (notices line other) = []

-- the commands one after another, and what is said of what happens
pub record RunsAll (first : System) (commands : List NumberedCommand) (last : System)
    (messages : List ℕ) : Type 0 where
  pub events : List Event
  pub happen : HappensAll first commands last events
  pub are : messages ≡ flat_map message_of events

-- a run of the script has those rows in its record, and says those messages
pub record IsRunOf (script : Script) (rows : List Row) (messages : List ℕ) : Type 0 where
  pub last : System
  pub runs : RunsAll (opening script.config) script.commands.items last messages
  pub recorded : last.history.rows ≡ rows
