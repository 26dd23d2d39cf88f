-- The history of a run, and the lines of its rows.
use Rattle.std.proofs.Common.{ℕ, zero, suc, ◌≡◌, ◌≤◌, ◌+◌, ◌%◌, nat_eq, List, [], ◌∷◌, ◌++◌, Some, None, length, map, filter, sum, append-nil, refl, sym, ap, ◌∙◌, arith}
use Rattle.std.specs.List.{enumerate_from, range_with_len, slice_get}
use Rattle.recorder.specs.declared.row.Row.{Row}
use Rattle.recorder.specs.declared.row.Row.TheVariants.{Invoke, Note, Respond}
use Rattle.recorder.specs.Halls.{AreHalls, FallsTo, RecordedHalls, hall_calls}
use Rattle.recorder.specs.Histories.{Recorded, call_count}
use Rattle.file_format.specs.declared.hall_row.HallRow.{HallRow}
use Rattle.file_format.specs.Texts.{rows_from}
use Rattle.history_file.specs.NumberedRows.{line_in, lines_of}
use Rattle.history_file.specs.declared.numbered_format.NumberedHistories.{NumberedHistories}
use Rattle.judged_keys.specs.Halls.{HasLinesOfEach}
use Rattle.trace_command.specs.TracePages.{IsNumbered}

-- ---- lines

-- one number more at the end
range_more : (a n : ℕ) → range_with_len a (suc n) ≡ range_with_len a n ++ (a + n) ∷ []
range_more a zero = let e : a ≡ a + 0 = omega arith in ap (λ (k : ℕ). k ∷ []) e
range_more a (suc n) =
    let e : a + 1 + n ≡ a + suc n = omega arith in
    ap (λ (ks : List ℕ). a ∷ ks) (range_more (a + 1) n) ∙ ap (λ (k : ℕ). a ∷ (range_with_len (a + 1) n ++ k ∷ [])) e

pub line_more : (n line : ℕ) (old new : List ℕ) → line ≡ n + 2 → old ≡ range_with_len 2 n → new ≡ old ++ line ∷ [] → new ≡ range_with_len 2 (n + 1)
line_more n line old new is so_far pushed =
    let at : line ≡ 2 + n = omega (arith, is) in
    let next : suc n ≡ n + 1 = omega arith in
    pushed ∙ ap (λ (ls : List ℕ). ls ++ line ∷ []) so_far ∙ ap (λ (k : ℕ). range_with_len 2 n ++ k ∷ []) at ∙ sym (range_more 2 n) ∙ ap (range_with_len 2) next

-- the rows of the only hall
abbrev alone : Row → HallRow
alone row = record { hall = 0; row = row }

numbers : (first : ℕ) (rows : List Row) → map line_in (filter (λ (numbered : ℕ × HallRow). nat_eq numbered.1.hall 0) (enumerate_from first (map alone rows))) ≡ range_with_len first (length rows)
numbers first [] = refl
numbers first (row ∷ rows) = ap (λ (ls : List ℕ). first ∷ ls) (numbers (first + 1) rows)

lines_are : (history : Recorded) → range_with_len 2 (length history.rows) ≡ lines_of 0 (rows_from 0 (history ∷ []))
lines_are history = sym (ap (lines_of 0) (append-nil (map alone history.rows)) ∙ numbers 2 history.rows)

-- ---- the hall

falls : (row : Row) → FallsTo 1 0 row
falls (Invoke op client key action) = only (sum key)
  where
    only : (n : ℕ) → n % 1 ≡ 0
    only n = omega arith
falls (Note op tag) = tt
falls (Respond op returned) = tt

-- a history of few calls is that of a store's only hall
pub only_hall : (history : Recorded) → call_count history.rows ≤ 1000000 → AreHalls (record { halls = history ∷ []; quorums = None })
only_hall history few = record {
  count = record { least = omega arith; most = omega arith };
  calls = omega (arith, counted, few);
  keys = λ k other e. λ n row lt. at k other e _;
  one = λ unknown. refl;
}
  where
    counted : hall_calls (history ∷ []) ≡ call_count history.rows
    counted = omega arith

    at : (k : ℕ) (other : Recorded) → slice_get (history ∷ []) k ≡ Some other → (row : Row) → FallsTo 1 k row
    at zero other e row = falls row
    at (suc k) other e row = absurd (cc)

-- ---- both

-- those halls, of a store whose quorums aren't known
abbrev pub in_halls : List Recorded → RecordedHalls
in_halls histories = record { halls = histories; quorums = None }

pub numbered_so : (history : Recorded) (numbered : NumberedHistories) (lines : List ℕ) → numbered.histories ≡ record { halls = history ∷ []; quorums = None }
    → numbered.lines.items ≡ lines ∷ [] → lines ≡ range_with_len 2 (length history.rows) → IsNumbered history numbered
numbered_so history numbered lines histories_are lines_so are = record {
  histories = histories_are;
  lines = lines_so ∙ ap (λ (ls : List ℕ). ls ∷ []) (are ∙ lines_are history);
}

pub lines_of_each : (history : Recorded) (numbered : NumberedHistories) → IsNumbered history numbered → HasLinesOfEach numbered
lines_of_each history numbered is = omega (arith, ap length is.lines, ap (λ (h : RecordedHalls). length h.halls) is.histories)
