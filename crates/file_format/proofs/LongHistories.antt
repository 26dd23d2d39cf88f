-- Histories of any length.
use Rattle.std.proofs.Common.{ℕ, ◌≢◌, ◌≤◌, inl, inr, List, [], ◌∷◌, ◌++◌, Result, Ok}
use Rattle.std.proofs.Common.{Err, length, refl, sym, ap, subst, arith}
use Rattle.std.proofs.lemmas.List.{take-append-le, take_at}
use Rattle.std.proofs.lemmas.Option.{slice_get_within}
use Rattle.tag.proofs.Lists.{push_cases}
use Rattle.recorder.specs.declared.row.Row.{Row}
use Rattle.recorder.specs.declared.row.Row.TheVariants.{Invoke, Note, Respond}
use Rattle.recorder.specs.Histories.{Recorded, IsWellFormed, MayFollow, call_count}
use Rattle.counted_devices.specs.Cuts.{last_lines}
use Rattle.counted_devices.specs.FirstFaults.{IsFirstFault, FirstFaultInAll}
use Rattle.counted_devices.specs.declared.read_fault.Stop.TheVariants as stop
use Rattle.file_format.specs.declared.fault.LineFault.{LineFault}
use Rattle.file_format.specs.declared.fault.LineFault.TheVariants.{CallOutOfTurn, ClientBusy}
use Rattle.file_format.specs.declared.fault.LineFault.TheVariants.{CallNotPending, WrongKind}
use Rattle.file_format.specs.declared.fault.LineFault.TheVariants.{NoteTwice, TooManyCalls}
use Rattle.file_format.specs.Faults.{LineStop}
use Rattle.file_format.specs.Files.{AreSpelled, AreLinesOf, HasFault, file_rules}
use Rattle.file_format.specs.Formats.{Follows}
use Rattle.file_format.specs.HistoryFormat.{history_format, MakesHistory}
use Rattle.file_format.specs.LongHistories.{long_history_format, IsMisplacedInLong, MakesRows, IsTakenAfter}
use Rattle.file_format.specs.Places.{IsMisplaced, IsOneTooMany}
use Rattle.file_format.specs.Readings.{Reads}
use Rattle.file_format.proofs.OneFault.{IsSharp}
use Rattle.file_format.proofs.SharpFormats.{one_misplaced, never_misplaced}

-- ---- a row more

-- a row that may follow is one more of a history
pub formed_more : (rows : List Row) (row : Row) → IsWellFormed rows → MayFollow rows row → IsWellFormed (rows ++ row ∷ [])
formed_more rows row formed may k r at =
    elim (push_cases rows row k r at) [
      | inl w ↦
          let le : k ≤ length rows = omega (arith, slice_get_within rows k r w) in
          subst (λ (x : List Row). MayFollow x r) (sym (take-append-le k rows (row ∷ []) le)) (formed k r w)
      | inr w ↦
          subst (λ (x : List Row). MayFollow x r) (sym (take_at rows (row ∷ []) k (sym w.0)))
          (subst (λ (x : Row). MayFollow rows x) w.1 may)
    ]

module _ {Taker : Type 0} (HasTaken : List Row → Taker → Type 0) (rows : List Row) (formed : IsWellFormed rows) (row : Row) where
  -- a row that is taken follows in a file
  pub taken_follows : (result : Result (Unit {0}) LineStop) (new : Taker) → IsTakenAfter HasTaken rows row result new
      → Follows long_history_format (λ header. HasTaken) tt rows row result new
  taken_follows (Ok done) new h = (formed_more rows row formed h.0, h.1)
  taken_follows (Err (stop.Fault fault)) new h = h.0
  taken_follows (Err stop.Memory) new h = tt

-- ---- one fault

none_too_many : (row : Row) → IsOneTooMany 0 row → ⊥
none_too_many (Invoke op client key action) many = omega (arith, many)
none_too_many (Note op tag) many = many
none_too_many (Respond op returned) many = many

pub long_sharp : IsSharp long_history_format
long_sharp = record {
  one = λ header rows row f g h k. one_misplaced 0 rows row f g h k;
  none = λ header rows row more f formed k. never_misplaced 0 rows row more f formed (none_too_many row) k;
}

-- ---- a history of 1,000,000 calls at most

spelled_long : (lines : List (List ℕ)) (rows : List Row) → AreSpelled history_format lines tt rows
    → AreSpelled long_history_format lines tt rows
spelled_long [] rows h = h
spelled_long (first ∷ lines) rows h = h

spelled_short : (lines : List (List ℕ)) (rows : List Row) → AreSpelled long_history_format lines tt rows
    → AreSpelled history_format lines tt rows
spelled_short [] rows h = h
spelled_short (first ∷ lines) rows h = h

lines_long : (lines : List (List ℕ)) (rows : List Row) → AreLinesOf history_format lines tt rows
    → AreLinesOf long_history_format lines tt rows
lines_long lines rows h = record { spelled = spelled_long lines rows h.spelled; fits = h.fits.formed }

abbrev recorded : List Row → Recorded
recorded rows = record { rows = rows; limit = 1000000 }

pub read_long : (bytes : List ℕ) (rows : List Row) → Reads history_format MakesHistory bytes (recorded rows)
    → Reads long_history_format MakesRows bytes rows
read_long bytes rows h = record {
  lines = h.lines;
  rest = h.rest;
  splits = h.splits;
  some = h.some;
  header = tt;
  items = h.items;
  read = lines_long (last_lines h.lines h.rest) h.items h.read;
  made = ap (λ (r : Recorded). r.rows) h.made;
}

pub read_short : (bytes : List ℕ) (rows : List Row) → call_count rows ≤ 1000000 → Reads long_history_format MakesRows bytes rows
    → Reads history_format MakesHistory bytes (recorded rows)
read_short bytes rows few h =
    let all = last_lines h.lines h.rest in
    record {
      lines = h.lines;
      rest = h.rest;
      splits = h.splits;
      some = h.some;
      header = tt;
      items = rows;
      read = record {
        spelled = spelled_short all rows (subst (λ (rs : List Row). AreSpelled long_history_format all tt rs) (sym h.made) h.read.spelled);
        fits = record { formed = subst IsWellFormed (sym h.made) h.read.fits; few = few };
      };
      made = refl;
    }

misplaced_long : (rows : List Row) (row : Row) (f : LineFault) → f ≢ TooManyCalls → IsMisplaced rows row f → IsMisplacedInLong rows row f
misplaced_long rows row CallOutOfTurn other h = h
misplaced_long rows row ClientBusy other h = h
misplaced_long rows row CallNotPending other h = h
misplaced_long rows row WrongKind other h = h
misplaced_long rows row NoteTwice other h = h
misplaced_long rows row TooManyCalls other h = absurd (other refl)
misplaced_long rows row _ other h = absurd h

fault_long : (earlier : List (List ℕ)) (rows : List Row) (line : List ℕ) (f : LineFault) → f ≢ TooManyCalls
    → HasFault history_format earlier tt rows line f → HasFault long_history_format earlier tt rows line f
fault_long [] rows line f other h = h
fault_long (first ∷ earlier) rows line f other (inl h) = inl h
fault_long (first ∷ earlier) rows line f other (inr h) = inr (h.0, h.1, misplaced_long rows h.0 f other h.2)

first_long : (lines : List (List ℕ)) (n : ℕ) (f : LineFault) → f ≢ TooManyCalls → IsFirstFault (file_rules history_format) lines n f
    → IsFirstFault (file_rules long_history_format) lines n f
first_long lines n f other h =
    let old = h.faulty in
    record {
      earlier = h.earlier;
      line = h.line;
      later = h.later;
      place = h.place;
      counted = h.counted;
      faulty = record {
        header = tt;
        items = old.items;
        sound = lines_long h.earlier old.items old.sound;
        faulty = fault_long h.earlier old.items h.line f other old.faulty;
      };
    }

pub first_fault_long : (bytes : List ℕ) (n : ℕ) (f : LineFault) → f ≢ TooManyCalls
    → FirstFaultInAll (file_rules history_format) bytes n f → FirstFaultInAll (file_rules long_history_format) bytes n f
first_fault_long bytes n f other h = record {
  lines = h.lines;
  rest = h.rest;
  splits = h.splits;
  first = elim h.first [ inl one ↦ inl (first_long (last_lines h.lines h.rest) n f other one) | inr none ↦ inr none ];
}
