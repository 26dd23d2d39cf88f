-- A script's trace under way.
use Rattle.std.specs.Prelude.{ℕ, ◌≡◌, List, [], ◌∷◌, ◌++◌, Option, Some, None}
use Rattle.world_steps.specs.declared.step.Step.{Step}
use Rattle.world_steps.specs.declared.system.System.{System}
use Rattle.script_runs.specs.Events.{Event}
use Rattle.script_runs.specs.Observing.{Adds, ObservesRun}
use Rattle.script_runs.specs.Quotas.{GoesOn, HasRoom, IsFull, ShowsFirst}
use Rattle.script_runs.specs.declared.command.Script.{Script}
use Rattle.script_runs.specs.declared.origin.Origin.{Origin}
use Rattle.traces.specs.StepLines.{act_text, count_of}
use Rattle.traces.specs.Traces.{IsTraceText, event_line, head_text, joined, own_line}
use Rattle.traces.specs.declared.telling.Telling.{Telling}
use Rattle.traces.specs.declared.telling.ToldStep.{ToldStep}

-- the text is that of the lines
abbrev pub IsText : Telling → List (List ℕ) → Type 0
IsText telling lines = telling.text.items ≡ joined lines

-- the lines are told, at most so many of them
abbrev pub IsTold : ℕ → List (List ℕ) → Telling → Type 0
IsTold most lines telling = ShowsFirst (IsText telling) most lines telling.quota

-- the telling goes on by the line of what happens
abbrev pub TellsOn : Telling → Event → Telling → Type 0
TellsOn = Adds IsTold (λ event. event_line event ∷ [])

-- the line of a step that is about to be taken is left out
pub record LeavesOut (old new : Telling) : Type 0 where
  pub full : IsFull old.quota
  pub on : GoesOn old.quota new.quota
  pub same : new.text.items ≡ old.text.items

-- that line is begun
pub record BeginsLine (old : Telling) (origin : Origin) (s : System) (step : Step) (new : Telling)
    (told : ToldStep) : Type 0 where
  pub room : HasRoom old.quota
  pub on : GoesOn old.quota new.quota
  pub count : told.count ≡ count_of s step
  pub begun : new.text.items
      ≡ old.text.items ++ (head_text (own_line origin.line origin.kind) ++ act_text s step)

-- what is noted of a step that is about to be taken
abbrev pub NotesStep : Telling → Origin → System → Step → Telling → Option ToldStep → Type 0
NotesStep old origin s step new None = LeavesOut old new
NotesStep old origin s step new (Some told) = BeginsLine old origin s step new told

-- where all that happens in a run of a script was told, the text is the script's trace
abbrev pub IsTextOf : Telling → List ℕ → Type 0
IsTextOf telling text = (script : Script) (most : ℕ) (last : System) (first : Telling)
    → IsTold most [] first → ObservesRun TellsOn script last first telling
    → IsTraceText script most text
