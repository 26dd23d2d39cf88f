-- The lines of a history of any length, one after another.
use Rattle.std.proofs.Common.{ℕ, ◌≡◌, ◌<◌, List, [], ◌∷◌, ◌++◌, Bool, true, false, Option, Some, None, Result, Ok, Err, length, refl, subst, arith, length-append}
use Rattle.std.specs.Prelude.{if◌then◌else◌}
use Rattle.std.specs.Bool.{MatchBool}
use Rattle.counted_devices.proofs.CutOnce.{splits_once}
use Rattle.counted_devices.proofs.FaultKinds.{of_line}
use Rattle.counted_devices.specs.FirstFaults.{FileAnswers}
use Rattle.counted_devices.specs.ReadFaults.{IsFaultBy, kind_of}
use Rattle.counted_devices.specs.declared.read_fault.Stop.TheVariants as stop
use Rattle.recorder.specs.declared.row.Row.{Row}
use Rattle.file_format.specs.declared.fault.LineFault.{LineFault}
use Rattle.file_format.specs.Faults.{FileFault, LineStop}
use Rattle.file_format.specs.Files.{AreSpelled, HasFaultAfter, file_faults, file_rules}
use Rattle.file_format.specs.Lines.{LineShows, LineShowsBy}
use Rattle.file_format.specs.LongHistories.{IsTakenAfter, MakesRows, long_history_format}
use Rattle.file_format.specs.Readings.{Reads}
use Rattle.file_format.proofs.LongHistories.{formed_more}
use Rattle.file_format.proofs.Once.{spelled_once}
use Rattle.line_files.specs.Feeds.{StandsForLines}
use Rattle.line_files.specs.LinesRead.{HasReadBefore, LeavesReadIn}
use Rattle.line_files.specs.Steps.{ReadsUnder, StaysAtFault}
use Rattle.line_files.specs.declared.feed.Feed.{Feed}
use Rattle.history_file.specs.Openings.{long_history_opens}
use Rattle.history_file.specs.TakenLaws.{some_line}
use Rattle.history_file.specs.TakenRows.{AreRowsSoFar, HasTakenLines, HasTakenLinesBefore, HasTakenFile, LeavesTaken, MakesLongHistory}
use Rattle.history_file.specs.declared.taken_rows.LongHistory.{LongHistory}
use Rattle.history_file.proofs.Bodies.{AreSpelled-push, item_fault}

-- the whole lines of bytes are those of one list of rows
pub rows_once : (bytes : List ℕ) (rows others : List Row) → AreRowsSoFar bytes rows → AreRowsSoFar bytes others → rows ≡ others
rows_once bytes rows others a b =
    let same = splits_once bytes a.lines b.lines a.rest b.rest a.splits b.splits in
    let P : List (List ℕ) → Type 0 = λ lines. AreSpelled long_history_format lines tt rows in
    spelled_once long_history_format b.lines tt tt rows others (subst P same.0 a.read.spelled) b.read.spelled

-- what further lines are judged by
abbrev context_after : Bool → Option (Unit {0})
context_after is_headed = if is_headed then Some tt else None

-- where no header was read, no line was
pub no_line : (is_headed : Bool) (lines : List (List ℕ)) → context_after is_headed ≡ None
    → MatchBool is_headed (0 < length lines) (lines ≡ []) → lines ≡ []
no_line true lines none h = absurd (cc)
no_line false lines none h = h

-- a further line leaves it known that a header was read
headed_more : (is_headed : Bool) (lines : List (List ℕ)) (line : List ℕ) (under : Unit {0})
    → (if is_headed then Some tt else None) ≡ Some under
    → MatchBool is_headed (0 < length (lines ++ line ∷ [])) (lines ++ line ∷ [] ≡ [])
headed_more true lines line under told = omega (arith, length-append lines (line ∷ []))
headed_more false lines line under told = absurd (cc)

module _ {Taker : Type 0} (HasTaken : List Row → Taker → Type 0) where
  -- before the first line no row was taken
  pub none_taken : (taker : Taker) → HasTaken [] taker → MakesLongHistory HasTaken [] (record { taker = taker; is_headed = false })
  none_taken taker taken = record {
    made = record { rows = []; they = record { spelled = refl; fits = long_history_opens.fits }; taken = taken };
    headed = refl;
  }

  -- the first line is a header
  pub begun : (before : List (List ℕ)) (old : LongHistory Taker) → MakesLongHistory HasTaken before old → before ≡ []
      → (line : List ℕ) → LineShows long_history_format.heading line (Ok tt)
      → MakesLongHistory HasTaken (before ++ line ∷ []) (record { taker = old.taker; is_headed = true })
  begun [] old h none line shown =
      let P : List Row → Type 0 = λ rows. HasTaken rows old.taker in
      record {
        made = record {
          rows = [];
          they = record { spelled = (shown, tt); fits = long_history_opens.fits };
          taken = subst P h.made.they.spelled h.made.taken;
        };
        headed = omega arith;
      }
  begun (first ∷ lines) old h none line shown = absurd (cc)

  no_header : (before : List (List ℕ)) (old : LongHistory Taker) → MakesLongHistory HasTaken before old → before ≡ []
      → (line : List ℕ) (fault : LineFault) → LineShows long_history_format.heading line (Err fault)
      → HasFaultAfter long_history_format before line fault
  no_header [] old h none line fault shown = record { header = tt; items = h.made.rows; sound = h.made.they; faulty = shown }
  no_header (first ∷ lines) old h none line fault shown = absurd (cc)

  -- or has a fault as such
  pub not_begun : (before : List (List ℕ)) (old : LongHistory Taker) → MakesLongHistory HasTaken before old → before ≡ []
      → (line : List ℕ) (halt : LineStop) → LineShowsBy long_history_format.heading line (Err halt)
      → IsFaultBy (HasFaultAfter long_history_format before line) ⊥ (kind_of halt)
  not_begun before old h none line (stop.Fault fault) shown = no_header before old h none line fault shown
  not_begun before old h none line stop.Memory shown = tt

  -- the row of the next line is taken, or has its fault
  pub row_follows : (before : List (List ℕ)) (old : LongHistory Taker) (h : MakesLongHistory HasTaken before old) (text : List ℕ) (under : Unit {0}) (row : Row)
      → (if old.is_headed then Some tt else None) ≡ Some under → LineShows (long_history_format.meaning under) text (Ok row)
      → (result : Result (Unit {0}) LineStop) (taker : Taker) → IsTakenAfter HasTaken h.made.rows row result taker
      → ReadsUnder (file_rules long_history_format) (MakesLongHistory HasTaken) (λ history. if history.is_headed then Some tt else None) under before text result (record { taker = taker; is_headed = old.is_headed })
  row_follows before old h text under row told shown (Ok done) taker t =
      let some = some_line old.is_headed before under told h.headed in (
        record {
          made = record {
            rows = h.made.rows ++ row ∷ [];
            they = record {
              spelled = AreSpelled-push long_history_format (λ header. HasTaken) before tt h.made.rows text row some h.made.they.spelled shown;
              fits = formed_more h.made.rows row h.made.they.fits t.0;
            };
            taken = t.1;
          };
          headed = headed_more old.is_headed before text under told;
        },
        told,
      )
  row_follows before old h text under row told shown (Err (stop.Fault fault)) taker t =
      let some = some_line old.is_headed before under told h.headed in
      record {
        header = tt;
        items = h.made.rows;
        sound = h.made.they;
        faulty = item_fault long_history_format (λ header. HasTaken) before tt h.made.rows text row fault some shown t.0;
      }
  row_follows before old h text under row told shown (Err stop.Memory) taker t = tt

  -- a row with a fault isn't taken
  pub row_stays : (before : List (List ℕ)) (old : LongHistory Taker) (h : MakesLongHistory HasTaken before old) (row : Row)
      (result : Result (Unit {0}) LineStop) (taker : Taker) → IsTakenAfter HasTaken h.made.rows row result taker
      → StaysAtFault (MakesLongHistory HasTaken before) result (record { taker = taker; is_headed = old.is_headed })
  row_stays before old h row (Ok done) taker t = tt
  row_stays before old h row (Err (stop.Fault fault)) taker t = record {
    made = record { rows = h.made.rows; they = h.made.they; taken = t.1 };
    headed = h.headed;
  }
  row_stays before old h row (Err stop.Memory) taker t = tt

  -- ---- as callers see it

  pub stands_taken : (bytes : List ℕ) (feed : Feed (LongHistory Taker) LineFault) → StandsForLines (MakesLongHistory HasTaken) bytes feed
      → HasTakenLines HasTaken bytes feed.progress.contents.taker
  stands_taken bytes feed s =
      let h = s.at.made.made in
      record {
        rows = h.rows;
        they = record { lines = s.lines; rest = feed.rest.items; splits = s.splits; read = h.they };
        taken = h.taken;
      }

  before_taken : (bytes : List ℕ) (number : ℕ) (history : LongHistory Taker) → HasReadBefore (MakesLongHistory HasTaken) bytes number history
      → HasTakenLinesBefore HasTaken bytes number history.taker
  before_taken bytes number history r =
      let h = r.at.made.made in
      record {
        rows = h.rows;
        they = record {
          lines = r.lines;
          rest = r.rest;
          splits = r.splits;
          at = record { earlier = r.at.earlier; later = r.at.later; whole = r.at.whole; counted = r.at.counted; made = h.they };
        };
        taken = h.taken;
      }

  read_taken : (bytes : List ℕ) (taker : Taker) → Reads long_history_format (λ header. HasTaken) bytes taker → HasTakenFile HasTaken bytes taker
  read_taken bytes taker r = record {
    rows = r.items;
    they = record { lines = r.lines; rest = r.rest; splits = r.splits; some = r.some; header = tt; items = r.items; read = r.read; made = refl };
    taken = r.made;
  }

  -- a refusal that leaves the lines before a fault as read leaves their rows as taken
  pub leaves_taken : {X : Type 0} (bytes : List ℕ) (result : Result X FileFault) (history : LongHistory Taker)
      → LeavesReadIn (MakesLongHistory HasTaken) bytes result history → LeavesTaken HasTaken bytes result history.taker
  leaves_taken bytes (Ok x) history h = tt
  leaves_taken bytes (Err fault) history h =
      of_line (λ (_ : LineFault). HasReadBefore (MakesLongHistory HasTaken) bytes fault.line history) (λ (_ : LineFault). HasTakenLinesBefore HasTaken bytes fault.line history.taker) ⊥ fault.kind
      (λ line_fault r. before_taken bytes fault.line history r) h

  -- the taker of a file that is read has taken its rows
  pub answers_taken : (bytes : List ℕ) (result : Result Taker FileFault)
      → FileAnswers (file_faults long_history_format) (Reads long_history_format (λ header. HasTaken)) bytes result
      → FileAnswers (file_faults long_history_format) (HasTakenFile HasTaken) bytes result
  answers_taken bytes (Ok taker) h = read_taken bytes taker h
  answers_taken bytes (Err fault) h = h
