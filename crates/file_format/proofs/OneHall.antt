-- A history file of version 1, read as histories by hall: one hall.
use Rattle.std.proofs.Common.{ℕ, zero, suc, ◌≡◌, ◌≢◌, ◌%◌, inl, inr, List, [], ◌∷◌, Some, None}
use Rattle.std.proofs.Common.{Result, Ok, Err, codes, sum, refl, sym, ap, subst, arith, append-nil}
use Rattle.std.specs.List.{slice_get, AllZip}
use Rattle.serde_json.specs.Data.{Data}
use Rattle.recorder.specs.declared.row.Row.{Row}
use Rattle.recorder.specs.declared.row.Row.TheVariants.{Invoke, Note, Respond}
use Rattle.recorder.specs.Halls.{RecordedHalls, AreHalls, FallsTo, hall_calls}
use Rattle.recorder.specs.Histories.{Recorded, IsWellFormed, call_count}
use Rattle.counted_devices.specs.Cuts.{last_lines}
use Rattle.counted_devices.specs.FirstFaults.{IsFirstFault, FirstFaultInAll}
use Rattle.file_format.specs.declared.fault.LineFault.{LineFault}
use Rattle.file_format.specs.declared.fault.LineFault.TheVariants.{NotJson, NoHeader, Version, TooLong}
use Rattle.file_format.specs.declared.file_header.FileHeader.TheVariants.{Version1}
use Rattle.file_format.specs.declared.hall_row.HallRow.{HallRow}
use Rattle.file_format.specs.FileHeaders.{file_header_in}
use Rattle.file_format.specs.Files.{IsLineOf, AreSpelled, HasFault, file_rules}
use Rattle.file_format.specs.HallPlaces.{rows_of, IsMisplacedInHall}
use Rattle.file_format.specs.HallRows.{hall_row_in}
use Rattle.file_format.specs.Headers.{header_in}
use Rattle.file_format.specs.HistoriesFormat.{histories_format, AreHistories, MakesHistories}
use Rattle.file_format.specs.HistoryFormat.{history_format, MakesHistory, IsHistory}
use Rattle.file_format.specs.LineFaults.{HasHeaderFault, HasFileHeaderFault}
use Rattle.file_format.specs.Lines.{LineShows}
use Rattle.file_format.specs.Places.{IsMisplaced, IsMisplacedAfter}
use Rattle.file_format.specs.Readings.{Reads}
use Rattle.file_format.specs.Rows.{row_in}
use Rattle.file_format.specs.Texts.{rows_from}
use Rattle.file_format.proofs.HallFaults.{file_header_fault, hall_row_fault}
use Rattle.file_format.proofs.RowsAcrossHalls.{in_hall}
use Rattle.file_format.proofs.LineFaults.{header_fault, row_fault}
use Rattle.file_format.proofs.RowsByHall.{tagged, rows_tagged, plain_tagged, fits_again, made_again}
use Rattle.file_format.proofs.SayingRows.{row_back}
use Rattle.file_format.proofs.SayingHalls.{file_header_there, hall_row_there}
use Rattle.file_format.proofs.SayingPieces.{header_back}

abbrev in_hall_0 : Row → HallRow
in_hall_0 row = record { hall = 0; row = row }

header_too : (line : List ℕ) → LineShows (header_in (codes "history")) line (Ok tt) → LineShows file_header_in line (Ok Version1)
header_too line h = record {
  short = h.short;
  value = h.value;
  json = h.json;
  meant =
      file_header_there h.value Version1 (header_back (codes "history") h.value h.meant);
}

row_too : (line : List ℕ) (row : Row) → LineShows row_in line (Ok row) → LineShows (hall_row_in Version1) line (Ok (in_hall_0 row))
row_too line row h = record {
  short = h.short;
  value = h.value;
  json = h.json;
  meant =
      hall_row_there Version1 h.value (in_hall_0 row) (refl, row_back h.value row h.meant);
}

rows_too : (lines : List (List ℕ)) (rows : List Row) → AllZip (IsLineOf history_format tt) lines rows
    → AllZip (IsLineOf histories_format Version1) lines (tagged 0 rows)
rows_too [] [] h = tt
rows_too [] (row ∷ rows) h = absurd h
rows_too (line ∷ lines) [] h = absurd h
rows_too (line ∷ lines) (row ∷ rows) h = (row_too line row h.0, rows_too lines rows h.1)

spelled_too : (lines : List (List ℕ)) (rows : List Row) → AreSpelled history_format lines tt rows
    → AreSpelled histories_format lines Version1 (tagged 0 rows)
spelled_too [] rows h = ap (tagged 0) h
spelled_too (first ∷ lines) rows h = (header_too first h.0, rows_too lines rows h.1)

abbrev alone : List Row → RecordedHalls
alone rows = record { halls = record { rows = rows; limit = 1000000 } ∷ []; quorums = None }

falls : (row : Row) → FallsTo 1 0 row
falls (Invoke op client key action) = only (sum key)
  where
    only : (n : ℕ) → n % 1 ≡ 0
    only n = omega arith
falls (Note op tag) = tt
falls (Respond op returned) = tt

one_hall : (rows : List Row) → IsHistory rows → AreHalls (alone rows)
one_hall rows h = record {
  count = record { least = omega arith; most = omega arith };
  calls = omega (arith, counted (record { rows = rows; limit = 1000000 }), h.few);
  keys = λ k history e. λ n row lt. at k history e _;
  one = λ unknown. refl;
}
  where
    counted : (history : Recorded) → hall_calls (history ∷ []) ≡ call_count history.rows
    counted history = omega arith

    at : (k : ℕ) (history : Recorded) → slice_get (alone rows).halls k ≡ Some history → (row : Row) → FallsTo 1 k row
    at zero history e row = falls row
    at (suc k) history e row = absurd (cc)

formed_too : (rows : List Row) → IsHistory rows → (k : ℕ) (history : Recorded) → slice_get (alone rows).halls k ≡ Some history
    → IsWellFormed history.rows
formed_too rows h zero history e =
    let same : record { rows = rows; limit = 1000000 } ≡ history = cc in
    subst (λ (r : Recorded). IsWellFormed r.rows) same h.formed
formed_too rows h (suc k) history e = absurd (cc)

pub read_too : (bytes : List ℕ) (history : Recorded) → Reads history_format MakesHistory bytes history
    → Reads histories_format MakesHistories bytes (record { halls = history ∷ []; quorums = None })
read_too bytes history h =
    let rows = h.items in
    let all = one_hall rows h.read.fits in
    let items : rows_from 0 (alone rows).halls ≡ tagged 0 rows = append-nil (tagged 0 rows) in
    record {
      lines = h.lines;
      rest = h.rest;
      splits = h.splits;
      some = h.some;
      header = Version1;
      items = rows_from 0 (alone rows).halls;
      read = record {
        spelled = subst (λ (placed : List HallRow). AreSpelled histories_format (last_lines h.lines h.rest) Version1 placed) (sym items)
            (spelled_too (last_lines h.lines h.rest) rows h.read.spelled);
        fits = fits_again (alone rows) all (formed_too rows h.read.fits);
      };
      made = subst (λ (one : Recorded).
          MakesHistories Version1 (rows_from 0 (alone rows).halls) (record { halls = one ∷ []; quorums = None })) (sym h.made)
          (made_again (alone rows) all);
    }

-- ---- its first fault, other than a version

err_too : {X Y : Type 0} (m : Data → Result X LineFault) (n : Data → Result Y LineFault) (line : List ℕ) (f : LineFault)
    → ((d : Data) → m d ≡ Err f → n d ≡ Err f) → LineShows m line (Err f) → LineShows n line (Err f)
err_too m n line TooLong too h = h
err_too m n line NotJson too h = h
err_too m n line _ too h = record { short = h.short; value = h.value; json = h.json; meant = too h.value h.meant }

header_fault_too : (d : Data) (f : LineFault) → f ≢ Version → HasHeaderFault (codes "history") d f → HasFileHeaderFault d f
header_fault_too d NoHeader other h = h
header_fault_too d Version other h = absurd (other refl)
header_fault_too d _ other h = absurd h

no_header_too : (f : LineFault) → f ≢ Version → (d : Data) → header_in (codes "history") d ≡ Err f → file_header_in d ≡ Err f
no_header_too f other d e = (file_header_fault d f).1 (header_fault_too d f other ((header_fault (codes "history") d f).0 e))

no_row_too : (f : LineFault) (d : Data) → row_in d ≡ Err f → hall_row_in Version1 d ≡ Err f
no_row_too f d e = (hall_row_fault Version1 d f).1 ((row_fault d f).0 e)

misplaced_too : (rows : List Row) (row : Row) (f : LineFault) → IsMisplaced rows row f
    → IsMisplacedInHall 1 (tagged 0 rows) (in_hall_0 row) f
misplaced_too rows row f h =
    in_hall 1 (tagged 0 rows) (in_hall_0 row) f (record { below = omega arith; falls = falls row })
    (subst (λ (calls : ℕ). IsMisplacedAfter calls (rows_of 0 (tagged 0 rows)) row f) (sym (ap call_count (plain_tagged 0 rows)))
    (subst (λ (rs : List Row). IsMisplacedAfter (call_count rows) rs row f) (sym (rows_tagged 0 rows)) h))

fault_too : (earlier : List (List ℕ)) (rows : List Row) (line : List ℕ) (f : LineFault) → f ≢ Version
    → HasFault history_format earlier tt rows line f → HasFault histories_format earlier Version1 (tagged 0 rows) line f
fault_too [] rows line f other h = err_too (header_in (codes "history")) file_header_in line f (no_header_too f other) h
fault_too (first ∷ earlier) rows line f other (inl h) = inl (err_too row_in (hall_row_in Version1) line f (no_row_too f) h)
fault_too (first ∷ earlier) rows line f other (inr h) = inr (in_hall_0 h.0, row_too line h.0 h.1, misplaced_too rows h.0 f h.2)

fits_too : (rows : List Row) → IsHistory rows → AreHistories Version1 (tagged 0 rows)
fits_too rows h =
    subst (λ (placed : List HallRow). AreHistories Version1 placed) (append-nil (tagged 0 rows))
    (fits_again (alone rows) (one_hall rows h) (formed_too rows h))

first_too : (lines : List (List ℕ)) (n : ℕ) (f : LineFault) → f ≢ Version → IsFirstFault (file_rules history_format) lines n f
    → IsFirstFault (file_rules histories_format) lines n f
first_too lines n f other h =
    let old = h.faulty in
    record {
      earlier = h.earlier;
      line = h.line;
      later = h.later;
      place = h.place;
      counted = h.counted;
      faulty = record {
        header = Version1;
        items = tagged 0 old.items;
        sound = record { spelled = spelled_too h.earlier old.items old.sound.spelled; fits = fits_too old.items old.sound.fits };
        faulty = fault_too h.earlier old.items h.line f other old.faulty;
      };
    }

pub first_fault_too : (bytes : List ℕ) (n : ℕ) (f : LineFault) → f ≢ Version → FirstFaultInAll (file_rules history_format) bytes n f
    → FirstFaultInAll (file_rules histories_format) bytes n f
first_fault_too bytes n f other h = record {
  lines = h.lines;
  rest = h.rest;
  splits = h.splits;
  first = elim h.first [ inl one ↦ inl (first_too (last_lines h.lines h.rest) n f other one) | inr none ↦ inr none ];
}
