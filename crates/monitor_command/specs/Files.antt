-- What a monitor that took rows of a file says of the file.
use Rattle.std.specs.Prelude.{ℕ, ◌≡◌, ◌<◌, ◌≤◌, ◌+◌, ◌⊎◌, List, false, Option, Some}
use Rattle.std.specs.Prelude.{take, Contains, slice_get}
use Rattle.recorder.specs.declared.part.Call.{Call}
use Rattle.recorder.specs.declared.row.Row.{Row}
use Rattle.recorder.specs.Orders.{IsLinearizable}
use Rattle.recorder.specs.Records.{IsPart}
use Rattle.history_file.specs.TakenRows.{AreRowsBefore, AreRowsOfFile, AreRowsSoFar, HasTakenSome}
use Rattle.monitored_key.specs.declared.judged.Refusal.{Refusal}
use Rattle.record_monitor.specs.declared.report.Finding.TheVariants.{Refused}
use Rattle.record_monitor.specs.declared.report.Report.{Report}
use Rattle.record_monitor.specs.declared.taken.Taken.{Taken}
use Rattle.record_monitor.specs.Monitored.{HasTaken, reports_of}
use Rattle.monitor_command.specs.Tellings.{is_refusal}

-- the rows are those of some first lines of the bytes: of all whole lines, of those before one that
-- has a fault, or of a whole file
abbrev pub AreFirstRows : List ℕ → List Row → Type 0
AreFirstRows bytes rows = AreRowsSoFar bytes rows
    ⊎ (((number : ℕ) × AreRowsBefore bytes number rows) ⊎ AreRowsOfFile bytes rows)

-- the monitor has taken such rows
abbrev pub HasSeen : List ℕ → Option Taken → Type 0
HasSeen bytes monitor = HasTakenSome HasTaken (AreFirstRows bytes) monitor

-- a refusal is among the reports
pub record HasRefusal (reports : List Report) : Type 0 where
  pub report : Report
  pub refusal : Refusal
  pub there : Contains reports report
  pub is : report.finding ≡ Refused refusal

module _ (place : ℕ) (reports : List Report) where
  -- no refusal is among those before that place
  abbrev pub HasNoRefusalBefore : Type 0
  HasNoRefusalBefore = (n : ℕ) (report : Report) → n < place → slice_get reports n ≡ Some report
      → is_refusal report.finding ≡ false

  -- no refusal is among those from that place on
  abbrev pub HasNoRefusalFrom : Type 0
  HasNoRefusalFrom = (n : ℕ) (report : Report) → place ≤ n → slice_get reports n ≡ Some report
      → is_refusal report.finding ≡ false

-- there are reports, and none is a refusal
pub record HasDoubtsAlone (reports : List Report) : Type 0 where
  pub first : Report
  pub there : slice_get reports 0 ≡ Some first
  pub none : HasNoRefusalFrom 0 reports

-- the calls of a key by some row of the first lines have no order
pub record IsRefuted (bytes : List ℕ) : Type 0 where
  pub rows : List Row
  pub first : AreFirstRows bytes rows
  pub key : List ℕ
  pub place : ℕ
  pub refuted : (part : List Call) → IsPart (take (place + 1) rows) key part
      → IsLinearizable part → ⊥

-- the bytes are a history, and the calls of each key have an order
pub record IsAtomicFile (bytes : List ℕ) : Type 0 where
  pub rows : List Row
  pub all : AreRowsOfFile bytes rows
  pub each : (key : List ℕ) (part : List Call) → IsPart rows key part → IsLinearizable part

-- the bytes are a history; of no key a refusal is reported, but of one that a read is undecided, or
-- was answered after it was given up
pub record IsUndecidedFile (bytes : List ℕ) : Type 0 where
  pub rows : List Row
  pub all : AreRowsOfFile bytes rows
  pub monitor : Option Taken
  pub taken : HasTaken rows monitor
  pub doubts : HasDoubtsAlone (reports_of monitor)
