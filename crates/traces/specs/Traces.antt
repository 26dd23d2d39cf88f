-- The trace of a script: what is told of all that happens in its run, in its order.
use Rattle.std.specs.Prelude.{ℕ, ◌≡◌, ◌-◌, ◌==◌, List, ◌++◌, [], codes, flat_map, length}
use Rattle.std.specs.Prelude.{map, min, take, Option, None, Some, if◌then◌else◌}
use Rattle.sentences.specs.Words.{numbered}
use Rattle.world_settle.specs.declared.errors.SettleError.{SettleError}
use Rattle.world_steps.specs.Systems.{opening}
use Rattle.world_steps.specs.declared.step.Step.{Step}
use Rattle.world_steps.specs.declared.system.System.{System}
use Rattle.script_runs.specs.declared.command.Script.{Script}
use Rattle.script_runs.specs.Events.{Event, HappensAll, notices, tries}
use Rattle.script_runs.specs.Quotas.{last_count}
use Rattle.script_runs.specs.declared.notice.Notice.{Notice}
use Rattle.script_runs.specs.declared.notice.Notice.TheVariants as notice
use Rattle.script_runs.specs.declared.origin.CommandKind.{CommandKind}
use Rattle.script_runs.specs.declared.origin.CommandKind.TheVariants as kind
use Rattle.traces.specs.StepLines.{step_text}
use Rattle.traces.specs.Words.{unsettled_text}

-- ---- lines

-- how a line begins that tells of the script's line of that number
unfoldable pub line_head : ℕ → List ℕ
line_head number = numbered (codes "line ") number ++ codes ": "

-- how a line begins that tells of a step below such a line
abbrev pub inner_head : List ℕ
inner_head = codes "  "

-- how a line begins: with the number of its line in the script, if it has one
unfoldable pub head_text : Option ℕ → List ℕ
head_text None = inner_head
head_text (Some number) = line_head number

-- the line of a step that is to be taken in the system
unfoldable pub step_line : Option ℕ → System → Step → List ℕ
step_line number s step = head_text number ++ step_text s step ++ codes "\n"

-- the words of a line that has a client's call completed
unfoldable pub finish_words : ℕ → ℕ → List ℕ
finish_words number name = line_head number ++ numbered (codes "finish ") name

-- the line above the steps that complete a client's call
unfoldable pub finish_line : ℕ → ℕ → List ℕ
finish_line number name = finish_words number name ++ codes ":\n"

-- one step, or several
abbrev pub steps_word : ℕ → List ℕ
steps_word count = if count == 1 then codes " step\n" else codes " steps\n"

-- the line below the steps that completed a client's call: how many there were
unfoldable pub finished_line : ℕ → List ℕ
finished_line count = numbered (codes "  took ") count ++ steps_word count

-- the line of a call that can't be completed
unfoldable pub unfinished_line : ℕ → ℕ → SettleError → List ℕ
unfinished_line number name why =
    finish_words number name ++ unsettled_text why ++ codes "\n"

-- the line above random steps
unfoldable pub random_line : ℕ → ℕ → ℕ → List ℕ
random_line number seed count = line_head number
    ++ numbered (codes "random ") seed ++ numbered (codes " ") count ++ codes ":\n"

-- the line below random steps: how many of them were taken
unfoldable pub walked_line : ℕ → ℕ → List ℕ
walked_line taken count =
    numbered (codes "  took ") taken ++ numbered (codes " of ") count ++ codes "\n"

-- the number of the line of a command that is one step
abbrev pub own_line : ℕ → CommandKind → Option ℕ
own_line number kind.Step = Some number
own_line number other = None

-- the line of what there is to say of the command of that line
abbrev pub notice_line : ℕ → Notice → List ℕ
notice_line number (notice.Finishes name) = finish_line number name
notice_line number (notice.Finished count) = finished_line count
notice_line number (notice.Unfinished name why) = unfinished_line number name why
notice_line number (notice.Randomizes seed count) = random_line number seed count
notice_line number (notice.Randomized taken count) = walked_line taken count

-- the line that tells what happens
abbrev pub event_line : Event → List ℕ
event_line (tries origin s step) = step_line (own_line origin.line origin.kind) s step
event_line (notices number notice) = notice_line number notice

-- ---- the trace of a script

-- the lines tell all that happens in a run of the script, in its order
pub record IsTraceOf (script : Script) (lines : List (List ℕ)) : Type 0 where
  pub last : System
  pub events : List Event
  pub happen : HappensAll (opening script.config) script.commands.items last events
  pub told : lines ≡ map event_line events

-- ---- the text of a trace

-- the line that says how many lines were left out, if some were
unfoldable pub omitted_line : ℕ → List ℕ
omitted_line count = if count == 0 then []
    else numbered (codes "lines left out: ") count ++ codes "; --most N says how many are told\n"

-- lines, one after another
abbrev pub joined : List (List ℕ) → List ℕ
joined lines = flat_map (λ (line : List ℕ). line) lines

-- the first lines, so many, and then how many were left out
abbrev pub shown : ℕ → List (List ℕ) → List ℕ
shown most lines = joined (take most lines) ++ omitted_line (min (length lines - most) last_count)

-- the text is the trace of the script, with at most so many lines of it
pub record IsTraceText (script : Script) (most : ℕ) (text : List ℕ) : Type 0 where
  pub lines : List (List ℕ)
  pub trace : IsTraceOf script lines
  pub is : text ≡ shown most lines
