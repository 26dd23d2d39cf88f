-- What is counted at the end, and how it is told.
use Rattle.std.specs.Prelude.{ℕ, ◌≡◌, ◌==◌, Bool, not, ◌&&◌, List, Option, count_by, length}
use Rattle.std.specs.List.{list_any, range_with_len}
use Rattle.command_line.specs.declared.lines.Lines.{Lines}
use Rattle.command_line.specs.declared.lines.Lines.TheVariants as form
use Rattle.monitor_sentences.specs.Counts.{end_line, end_object, whole_of}
use Rattle.monitor_sentences.specs.declared.counts.Counts.{Counts}
use Rattle.record_monitor.specs.declared.report.Report.{Report}
use Rattle.record_monitor.specs.declared.taken.Taken.{Taken}
use Rattle.record_monitor.specs.Followed.{is_refused}
use Rattle.record_monitor.specs.Monitored.{begun_of, keys_of, reports_of, watched_of}
use Rattle.monitor_command.specs.Tellings.{is_refusal}

-- the counts, in that form
abbrev pub counts_text : Lines → Counts → List ℕ
counts_text form.Plain counts = end_line counts (whole_of counts)
counts_text form.Json counts = end_object counts (whole_of counts)

module _ (reports : List Report) (number : ℕ) where
  -- whether something is reported of the key of that number
  abbrev pub is_reported : Bool
  is_reported = list_any (λ report. report.key == number) reports

  -- whether a refusal of it is reported
  abbrev pub is_reported_refused : Bool
  is_reported_refused =
      list_any (λ report. report.key == number && is_refusal report.finding) reports

  -- whether it is in doubt: something is reported of it, but no refusal
  abbrev pub is_in_doubt : Bool
  is_in_doubt = is_reported && not is_reported_refused

-- how many of the monitor's keys are in doubt
abbrev pub doubt_count : Option Taken → ℕ
doubt_count monitor =
    count_by (is_in_doubt (reports_of monitor)) (range_with_len 0 (length (keys_of monitor)))

-- those are the counts of what the monitor took
pub record AreCountsOf (monitor : Option Taken) (counts : Counts) : Type 0 where
  pub refused : counts.refused ≡ count_by is_refused (watched_of monitor)
  pub doubtful : counts.doubtful ≡ doubt_count monitor
  pub keys : counts.keys ≡ length (keys_of monitor)
  pub calls : counts.calls ≡ begun_of monitor
