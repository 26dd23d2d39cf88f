-- The rows of a history file of any length, as its lines are taken.
use Rattle.std.specs.Prelude.{ℕ, ◌≡◌, ◌<◌, List, [], length, Result, IfErr}
use Rattle.std.specs.Bool.{MatchBool}
use Rattle.counted_devices.specs.Cuts.{Splits}
use Rattle.counted_devices.specs.ReadFaults.{IsFaultBy}
use Rattle.recorder.specs.declared.row.Row.{Row}
use Rattle.file_format.specs.Faults.{FileFault}
use Rattle.file_format.specs.Files.{AreLinesOf}
use Rattle.file_format.specs.LongHistories.{long_history_format, MakesRows}
use Rattle.file_format.specs.Readings.{Reads}
use Rattle.line_files.specs.LinesRead.{HasReadBefore}
use Rattle.history_file.specs.declared.taken_rows.LongHistory.{LongHistory}

-- the lines are a header and those of the rows, which are a history; before the header no row is
abbrev pub AreRowsOf : List (List ℕ) → List Row → Type 0
AreRowsOf lines rows = AreLinesOf long_history_format lines tt rows

-- the rows are those of the whole lines of the bytes
pub record AreRowsSoFar (bytes : List ℕ) (rows : List Row) : Type 0 where
  pub lines : List (List ℕ)
  pub rest : List ℕ
  pub splits : Splits bytes lines rest
  pub read : AreRowsOf lines rows

-- the rows are those of the lines of the bytes before that number
abbrev pub AreRowsBefore : List ℕ → ℕ → List Row → Type 0
AreRowsBefore bytes number rows = HasReadBefore AreRowsOf bytes number rows

-- the rows are those of the bytes, which are a whole file
abbrev pub AreRowsOfFile : List ℕ → List Row → Type 0
AreRowsOfFile bytes rows = Reads long_history_format MakesRows bytes rows

module _ {Taker : Type 0} (HasTaken : List Row → Taker → Type 0) where
  -- the taker has taken rows of which that holds
  pub record HasTakenSome (AreThey : List Row → Type 0) (taker : Taker) : Type 0 where
    pub rows : List Row
    pub they : AreThey rows
    pub taken : HasTaken rows taker

  -- it has taken the rows of the whole lines of the bytes
  abbrev pub HasTakenLines : List ℕ → Taker → Type 0
  HasTakenLines bytes taker = HasTakenSome (AreRowsSoFar bytes) taker

  -- it has taken the rows of the lines before that number
  abbrev pub HasTakenLinesBefore : List ℕ → ℕ → Taker → Type 0
  HasTakenLinesBefore bytes number taker = HasTakenSome (AreRowsBefore bytes number) taker

  -- it has taken the rows of the whole file
  abbrev pub HasTakenFile : List ℕ → Taker → Type 0
  HasTakenFile bytes taker = HasTakenSome (AreRowsOfFile bytes) taker

  -- where a line of the bytes has a fault, it has taken the rows of the lines before
  abbrev pub LeavesTaken : {X : Type 0} → List ℕ → Result X FileFault → Taker → Type 0
  LeavesTaken bytes result taker = IfErr result
      (λ fault. IsFaultBy (λ _. HasTakenLinesBefore bytes fault.line taker) ⊥ fault.kind)

  -- the rows of the lines were taken, and it is known whether the header was read
  pub record MakesLongHistory (lines : List (List ℕ)) (history : LongHistory Taker) : Type 0 where
    pub made : HasTakenSome (AreRowsOf lines) history.taker
    pub headed : MatchBool history.is_headed (0 < length lines) (lines ≡ [])
