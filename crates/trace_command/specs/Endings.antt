-- What a command comes to that makes a text of a script's run.
use Rattle.std.specs.Prelude.{ℕ, ◌≡◌, ◌⊎◌, List, []}
use Rattle.counted_devices.specs.Deliveries.{ReadsFrom}
use Rattle.counted_devices.specs.DeviceStates.{DeviceStates}
use Rattle.markup.specs.Markup.{Markup, page_text}
use Rattle.fault_script.specs.Scripts.{IsScript}
use Rattle.script_runs.specs.declared.command.Script.{Script}
use Rattle.cli.specs.Devices.{FileStates, WriterStates}
use Rattle.cli.specs.Outcomes.{Ends}
use Rattle.cli.specs.Reports.{IsScriptFault}
use Rattle.cli.specs.declared.outcome.Found.TheVariants as found
use Rattle.cli.specs.declared.outcome.Outcome.{Outcome}
use Rattle.cli.specs.declared.status.Failure.{Failure}
use Rattle.cli.specs.declared.status.Failure.TheVariants as failure
use Rattle.cli.specs.declared.status.Status.{Status}
use Rattle.draw_command.specs.declared.drawn.Drawn.{Drawn}
use Rattle.trace_command.specs.TracePages.{IsTracePage}

-- the text is that of a page of the script, of so many steps at most, which shows those words of it
abbrev pub IsTracePageText : List ℕ → ℕ → Drawn → Script → List ℕ → Type 0
IsTracePageText words most drawn script text = (page : Markup)
    × IsTracePage words script most drawn page × (text ≡ page_text page)

-- nothing is made of a script: it isn't read to its end, or memory is wanted
abbrev pub StopsScript : FileStates → Failure → Type 0
StopsScript script why = IsScriptFault script why ⊎ (why ≡ failure.Memory)

module _ (IsOf : Script → List ℕ → Type 0) where
  -- the reader's bytes, to its end, are a script, and the text is such a one of it: all is well
  -- whatever the run, and nothing goes to standard error
  pub record MakesOfScript (reader : DeviceStates) (outcome : Outcome) : Type 0 where
    pub script : Script
    pub read : ReadsFrom IsScript reader script
    pub text : IsOf script outcome.text.items
    pub good : outcome.found ≡ found.Good
    pub quiet : outcome.notes.items ≡ []

  -- how a command ends that makes such a text
  abbrev pub EndsOnScript : {W E : Type 0} → FileStates → WriterStates W → WriterStates E → Status
      → Type 0
  EndsOnScript script out errors s =
      Ends (MakesOfScript script.reader) (StopsScript script) out errors s
