-- What a monitor that has seen bytes says of them.
use Rattle.std.proofs.Common.{ℕ, ◌≡◌, ◌+◌, ◌∙◌, List, [], Bool, true, false, Option, Result, Ok, Err, ap, arith, inl, inr, refl, subst, sym, take, Some, None, true≢false}
use Rattle.std.specs.Prelude.{Contains, slice_get}
use Rattle.counted_devices.specs.ReadFaults.{IsFaultBy}
use Rattle.counted_devices.specs.declared.read_fault.FaultKind.{FaultKind}
use Rattle.counted_devices.specs.declared.read_fault.FaultKind.TheVariants as kind
use Rattle.recorder.specs.declared.part.Call.{Call}
use Rattle.recorder.specs.declared.row.Row.{Row}
use Rattle.recorder.specs.Histories.{IsWellFormed, call_count}
use Rattle.recorder.specs.Orders.{IsLinearizable}
use Rattle.recorder.specs.Records.{AreFirstSeen, IsPart}
use Rattle.tag.proofs.Lists.{place_of}
use Rattle.cli.specs.declared.outcome.Found.{Found}
use Rattle.cli.specs.declared.outcome.Found.TheVariants.{Good, Undecided}
use Rattle.cli.specs.declared.outcome.Found.TheVariants as found
use Rattle.command_line.specs.declared.lines.Lines.{Lines}
use Rattle.file_format.specs.declared.fault.LineFault.{LineFault}
use Rattle.counted_devices.specs.FirstFaults.{FeedAnswers}
use Rattle.file_format.specs.Faults.{FileFault}
use Rattle.file_format.specs.Files.{file_faults}
use Rattle.file_format.specs.LongHistories.{long_history_format}
use Rattle.history_file.specs.TakenRows.{HasTakenFile, HasTakenLines, HasTakenLinesBefore}
use Rattle.line_files.specs.declared.feed.Feed.{Feed}
use Rattle.history_file.specs.declared.taken_rows.LongHistory.{LongHistory}
use Rattle.monitored_key.specs.declared.judged.Refusal.{Refusal}
use Rattle.record_monitor.specs.declared.report.Finding.{Finding}
use Rattle.record_monitor.specs.declared.report.Finding.TheVariants.{Refused}
use Rattle.record_monitor.specs.declared.taken.Taken.{Taken}
use Rattle.record_monitor.specs.declared.report.Report.{Report}
use Rattle.record_monitor.specs.Monitored.{HasTaken, begun_of, keys_of, reports_of}
use Rattle.record_monitor.specs.Watched.{HasReport}
use Rattle.monitor_command.specs.declared.session.Stopped.{Stopped}
use Rattle.monitor_command.specs.declared.session.Stopped.TheVariants as stopped
use Rattle.monitor_command.specs.Endings.{EndsAs, GoesOn, HasSent, IsFoundOf, IsNoFault, IsRefusedAndTold, Stands, TellsCounts, TellsCountsOf, TellsLast, TellsRefusal, is_memory}
use Rattle.monitor_command.specs.declared.monitoring.Monitoring.{Monitoring}
use Rattle.monitor_command.proofs.Reports.{seen_before, seen_file, seen_lines}
use Rattle.monitor_command.proofs.Sent.{counts_last}
use Rattle.monitor_command.specs.Files.{AreFirstRows, HasDoubtsAlone, HasNoRefusalFrom, HasRefusal, HasSeen, IsAtomicFile, IsRefuted}
use Rattle.monitor_command.specs.Tellings.{is_refusal}

abbrev pub RowsFed : Type 0
RowsFed = Feed (LongHistory (Option Taken)) LineFault

-- the law of a refused key, and that of a record without a report
abbrev pub RefusalIsFinal : Type 0
RefusalIsFinal = (rows : List Row) (monitor : Option Taken) (place number : ℕ) (refusal : Refusal)
    → IsWellFormed rows → HasTaken rows monitor → HasReport (reports_of monitor) place number (Refused refusal)
    → (key : List ℕ) × (slice_get (keys_of monitor) number ≡ Some key) × ((part : List Call) → IsPart (take (place + 1) rows) key part → IsLinearizable part → ⊥)

-- a feed has taken the rows of its lines
abbrev pub RowsOfLines : Type 0
RowsOfLines = (bytes : List ℕ) (feed : RowsFed) → Stands bytes feed → HasTakenLines HasTaken bytes feed.progress.contents.taker

abbrev pub NoReportIsAnOrder : Type 0
NoReportIsAnOrder = (rows : List Row) (monitor : Option Taken) (key : List ℕ) (part : List Call)
    → IsWellFormed rows → HasTaken rows monitor → reports_of monitor ≡ [] → IsPart rows key part → IsLinearizable part

module _ (bytes : List ℕ) (monitor : Option Taken) where
  -- the rows of some first lines are a history
  formed : (rows : List Row) → AreFirstRows bytes rows → IsWellFormed rows
  formed rows (inl so_far) = so_far.read.fits
  formed rows (inr (inl before)) = before.1.at.made.fits
  formed rows (inr (inr file)) = subst IsWellFormed (sym file.made) file.read.fits

  -- a refusal that is reported
  pub refuted : RefusalIsFinal → HasSeen bytes monitor → HasRefusal (reports_of monitor) → IsRefuted bytes
  refuted law seen h =
      let found = law seen.rows monitor h.report.place h.report.key h.refusal (formed seen.rows seen.they) seen.taken
      (subst (λ (f : Finding). Contains (reports_of monitor) (record { place = h.report.place; key = h.report.key; finding = f })) h.is h.there) in
      record { rows = seen.rows; first = seen.they; key = found.0; place = h.report.place; refuted = found.2 }

  -- one that is told
  pub refusal_of : (a c : Option (List ℕ)) (form : Lines) → TellsRefusal a c form monitor → HasRefusal (reports_of monitor)
  refusal_of a c form t = record { report = t.ends.report; refusal = t.ends.refusal; there = t.ends.there; is = t.ends.is }

  pub refused_and_told : (a c : Option (List ℕ)) (form : Lines) → RefusalIsFinal → HasSeen bytes monitor → TellsRefusal a c form monitor → IsRefusedAndTold a c form bytes
  refused_and_told a c form law seen t = record {
    refuted = refuted law seen (refusal_of a c form t);
    monitor = monitor;
    seen = seen;
    told = t;
  }

  -- nothing is reported
  pub atomic : NoReportIsAnOrder → HasTakenFile HasTaken bytes monitor → reports_of monitor ≡ [] → IsAtomicFile bytes
  atomic law file none = record {
    rows = file.rows;
    all = file.they;
    each = λ key part is. law file.rows monitor key part (formed file.rows (inr (inr file.they))) file.taken none is;
  }

-- ---- what is counted

begun_is : (rows : List Row) (monitor : Option Taken) → HasTaken rows monitor → begun_of monitor ≡ call_count rows
begun_is rows None h = absurd h
begun_is rows (Some taken) h = h.opens.begun

seen_is : (rows : List Row) (monitor : Option Taken) → HasTaken rows monitor → AreFirstSeen rows (keys_of monitor)
seen_is rows None h = absurd h
seen_is rows (Some taken) h = h.keys.knows.keys.seen

counted : (a b c : Option (List ℕ)) (form : Lines) (bytes : List ℕ) (monitor : Option Taken) → HasTakenFile HasTaken bytes monitor
    → HasSent a b → TellsCountsOf b c form monitor → TellsCounts a c form bytes
counted a b c form bytes monitor file sent t =
    let last : TellsCounts b c form bytes = record {
      rows = file.rows;
      all = file.they;
      monitor = monitor;
      taken = file.taken;
      told = t;
      calls = t.are.calls ∙ begun_is file.rows monitor file.taken;
      keys = seen_is file.rows monitor file.taken;
    } in
    counts_last a b c form bytes sent last

-- ---- what is found

-- where no report is a refusal, none is among them
no_refusal : (reports : List Report) → HasNoRefusalFrom 0 reports → HasRefusal reports → ⊥
no_refusal reports none r =
    let at = place_of reports r.report r.there in
    true≢false (sym (ap is_refusal r.is) ∙ none at.0 r.report (omega arith) at.1)

last_of_all : (a c : Option (List ℕ)) (all : Bool) (form : Lines) (bytes : List ℕ) (reports : List Report) → (all ≡ false → HasNoRefusalFrom 0 reports)
    → HasRefusal reports → TellsCounts a c form bytes → TellsLast a c all form bytes
last_of_all a c true form bytes reports none r t = t
last_of_all a c false form bytes reports none r t = absurd (no_refusal reports (none refl) r)

-- what is found at the end of the file
module _ (a b c : Option (List ℕ)) (asked : Monitoring) (bytes : List ℕ) (monitor : Option Taken) where
  pub found_at_end : (f : Found) → (f ≡ Good → reports_of monitor ≡ []) → (f ≡ found.Refused → HasRefusal (reports_of monitor))
      → (f ≡ Undecided → HasDoubtsAlone (reports_of monitor)) → (asked.all ≡ false → HasNoRefusalFrom 0 (reports_of monitor))
      → RefusalIsFinal → NoReportIsAnOrder → HasTakenFile HasTaken bytes monitor
      → HasSent a b → TellsCountsOf b c asked.form monitor → IsFoundOf a c asked bytes f
  found_at_end Good good refused undecided none final law file sent t =
      (atomic bytes monitor law file (good refl), counted a b c asked.form bytes monitor file sent t)
  found_at_end found.Refused good refused undecided none final law file sent t = (
    refuted bytes monitor final (seen_file bytes monitor file) (refused refl),
    last_of_all a c asked.all asked.form bytes (reports_of monitor) none (refused refl) (counted a b c asked.form bytes monitor file sent t),
  )
  found_at_end Undecided good refused undecided none final law file sent t =
      let doubts = undecided refl in (
        record { rows = file.rows; all = file.they; monitor = monitor; taken = file.taken; doubts = doubts },
        counted a b c asked.form bytes monitor file sent t,
      )

-- a refusal that was told last, where not all keys are judged on
pub refused_is_last : (a c : Option (List ℕ)) (asked : Monitoring) (bytes : List ℕ) → asked.all ≡ false → IsRefusedAndTold a c asked.form bytes → IsFoundOf a c asked bytes found.Refused
refused_is_last a c asked bytes one told = (told.refuted, subst (λ (all : Bool). TellsLast a c all asked.form bytes) (sym one) told)

-- what stopped the command isn't a fault of the file
pub stopped_on : (a c : Option (List ℕ)) (form : Lines) (bytes : List ℕ) (feed : Feed (LongHistory (Option Taken)) LineFault) (why : Stopped) → IsNoFault why → GoesOn a c form bytes (Err why) feed
stopped_on a c form bytes feed (stopped.Fault fault) h = absurd h
stopped_on a c form bytes feed stopped.Memory h = tt
stopped_on a c form bytes feed stopped.Output h = tt

pub stopped_at_end : (a c : Option (List ℕ)) (asked : Monitoring) (bytes : List ℕ) (why : Stopped) → IsNoFault why → EndsAs a c asked bytes (Err why)
stopped_at_end a c asked bytes (stopped.Fault fault) h = absurd h
stopped_at_end a c asked bytes stopped.Memory h = tt
stopped_at_end a c asked bytes stopped.Output h = tt

-- where a line has a fault, that is so of the lines before it
of_a_line : (P : Type 0) (k : FaultKind LineFault) → is_memory k ≡ false → IsFaultBy (λ (_ : LineFault). P) ⊥ k → P
of_a_line P (kind.Line fault) other h = h
of_a_line P kind.Device other h = absurd h
of_a_line P kind.Memory other h = absurd (cc)

-- by a block, to its end or to a line with a fault
pub seen_whole : (bytes : List ℕ) (feed : RowsFed) (fed : Result (Unit {0}) FileFault) → RowsOfLines → FeedAnswers (file_faults long_history_format) Stands bytes fed feed
    → ((fault : FileFault) → fed ≡ Err fault → ⊥) → HasSeen bytes feed.progress.contents.taker
seen_whole bytes feed (Ok done) law stands other = seen_lines bytes feed.progress.contents.taker (law bytes feed stands)
seen_whole bytes feed (Err fault) law stands other = absurd (other fault refl)

pub seen_so_far : (bytes : List ℕ) (monitor : Option Taken) (fault : FileFault) → IsFaultBy (λ (_ : LineFault). HasTakenLinesBefore HasTaken bytes fault.line monitor) ⊥ fault.kind
    → is_memory fault.kind ≡ false → HasSeen bytes monitor
seen_so_far bytes monitor fault leaves other =
    seen_before bytes monitor fault.line (of_a_line (HasTakenLinesBefore HasTaken bytes fault.line monitor) fault.kind other leaves)
