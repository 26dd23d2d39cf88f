-- What is told of what a monitor reported.
use Rattle.std.specs.Prelude.{ℕ, ◌≡◌, Bool, true, false, List, [], ◌++◌, Option}
use Rattle.std.specs.Prelude.{Some, None, min, max, slice_get, Contains}
use Rattle.command_line.specs.declared.lines.Lines.{Lines}
use Rattle.command_line.specs.declared.lines.Lines.TheVariants as form
use Rattle.monitored_key.specs.declared.judged.Refusal.{Refusal}
use Rattle.monitor_sentences.specs.Findings.{doubt_lines, ended_lines, refused_lines}
use Rattle.monitor_sentences.specs.Objects.{doubt_object, ended_object, refused_object}
use Rattle.record_monitor.specs.declared.report.Finding.{Finding}
use Rattle.record_monitor.specs.declared.report.Finding.TheVariants as finding
use Rattle.record_monitor.specs.declared.report.Report.{Report}
use Rattle.record_monitor.specs.declared.taken.Taken.{Taken}
use Rattle.record_monitor.specs.declared.told.Told.{Told}
use Rattle.record_monitor.specs.Followed.{told_in}
use Rattle.record_monitor.specs.Monitored.{keys_of, reports_of, watched_of}
use Rattle.tag.specs.declared.numbers.OpId.{OpId}
use Rattle.value_order.specs.declared.decision.Doubt.{Doubt}

module _ (key : List ℕ) (place : ℕ) where
  -- in that form: the key is refused by the row at the place, and the calls that show it
  abbrev pub refusal_text : Lines → Option Told → List ℕ
  refusal_text form.Plain why = refused_lines key place why
  refusal_text form.Json why = refused_object key place why

  -- a read of the key may have read either of two writes
  abbrev pub doubt_text : Lines → Doubt → List ℕ
  doubt_text form.Plain doubt = doubt_lines key place doubt
  doubt_text form.Json doubt = doubt_object key place doubt

  -- a read of the key was given up, and is answered after all
  abbrev pub ended_text : Lines → OpId → List ℕ
  ended_text form.Plain read = ended_lines key place read
  ended_text form.Json read = ended_object key place read

  -- the doubt is of that read and these writes, the smaller number first, and that is told of it
  pub record TellsDoubt (form : Lines) (read : OpId) (one two : ℕ) (text : List ℕ) : Type 0 where
    pub doubt : Doubt
    pub whose : doubt.read ≡ read
    pub first : doubt.first.0 ≡ min one two
    pub second : doubt.second.0 ≡ max one two
    pub told : text ≡ doubt_text form doubt

  -- that is told of what was found
  abbrev pub Tells : Lines → Option Told → Finding → List ℕ → Type 0
  Tells form why (finding.Refused refusal) text = text ≡ refusal_text form why
  Tells form why (finding.Undecided read one two) text = TellsDoubt form read one two text
  Tells form why (finding.EndedAfterAll read) text = text ≡ ended_text form read

-- whether a key was refused
abbrev pub is_refusal : Finding → Bool
is_refusal (finding.Refused refusal) = true
is_refusal found = false

-- the key of that number; none has no letters
abbrev pub key_text : Option (List ℕ) → List ℕ
key_text None = []
key_text (Some key) = key

-- that is told of a report of the monitor
abbrev pub TellsReport : Lines → Option Taken → Report → List ℕ → Type 0
TellsReport form monitor report text =
    Tells (key_text (slice_get (keys_of monitor) report.key)) report.place form
    (told_in (slice_get (watched_of monitor) report.key)) report.finding text

-- a refusal is among the reports, and the text ends with what is told of it
pub record EndsWithRefusal (form : Lines) (monitor : Option Taken) (text : List ℕ) : Type 0 where
  pub report : Report
  pub refusal : Refusal
  pub there : Contains (reports_of monitor) report
  pub is : report.finding ≡ finding.Refused refusal
  pub before : List ℕ
  pub lines : List ℕ
  pub told : TellsReport form monitor report lines
  pub whole : text ≡ before ++ lines
