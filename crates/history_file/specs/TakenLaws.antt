-- Lines whose rows were taken, and the faults of the next one. The impl of `Contents` cites it, so
-- it stands here.
use Rattle.std.specs.Prelude.{ℕ, ◌≡◌, ◌<◌, List, [], Bool, true, false, Some, None, Err, length}
use Rattle.std.specs.Prelude.{if◌then◌else◌}
use Rattle.std.specs.Bool.{MatchBool}
use Rattle.counted_devices.specs.Cuts.{longest_line}
use Rattle.recorder.specs.declared.row.Row.{Row}
use Rattle.file_format.specs.declared.fault.LineFault.{LineFault}
use Rattle.file_format.specs.declared.fault.LineFault.TheVariants.{TooLong}
use Rattle.file_format.specs.Files.{AreSound, HasFaultAfter}
use Rattle.file_format.specs.Lines.{LineShows}
use Rattle.file_format.specs.LongHistories.{long_history_format}
use Rattle.history_file.specs.BodyLaws.{later_fault, long_fault}
use Rattle.history_file.specs.TakenRows.{MakesLongHistory}
use Rattle.history_file.specs.declared.taken_rows.LongHistory.{LongHistory}

-- where a header was read, a line was
pub some_line : (is_headed : Bool) (lines : List (List ℕ)) (under : Unit {0})
    → (if is_headed then Some tt else None) ≡ Some under
    → MatchBool is_headed (0 < length lines) (lines ≡ []) → 0 < length lines
some_line true lines under told h = h
some_line false lines under told h = absurd (cc)

module _ {Taker : Type 0} (HasTaken : List Row → Taker → Type 0) (lines : List (List ℕ))
    (history : LongHistory Taker) where
  pub taken_sound : MakesLongHistory HasTaken lines history → AreSound long_history_format lines
  taken_sound h = record { header = tt; items = h.made.rows; read = h.made.they }

  pub taken_faulty : (under : Unit {0}) (line : List ℕ) (fault : LineFault)
      → MakesLongHistory HasTaken lines history
      → (if history.is_headed then Some tt else None) ≡ Some under
      → LineShows (long_history_format.meaning under) line (Err fault)
      → HasFaultAfter long_history_format lines line fault
  taken_faulty under line fault h told shown =
      let some = some_line history.is_headed lines under told h.headed in
      record {
        header = tt;
        items = h.made.rows;
        sound = h.made.they;
        faulty = later_fault long_history_format lines tt h.made.rows line fault some shown;
      }

  pub taken_long : (line : List ℕ) → MakesLongHistory HasTaken lines history
      → longest_line < length line → HasFaultAfter long_history_format lines line TooLong
  taken_long line h long = record {
    header = tt;
    items = h.made.rows;
    sound = h.made.they;
    faulty = long_fault long_history_format lines tt h.made.rows line long;
  }
