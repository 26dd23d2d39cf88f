-- The lines of histories by hall: those of one hall, and then those of the next.
use Rattle.std.proofs.Common.{ℕ, zero, suc, ◌≡◌, ◌<◌, ◌≤◌, ◌+◌, List, [], ◌∷◌, ◌++◌, Option, length}
use Rattle.std.proofs.Common.{get_or, drop, refl, sym, ap, ◌∙◌, subst, arith, append_assoc}
use Rattle.std.proofs.Common.{append-nil}
use Rattle.std.specs.List.{flat_map}
use Rattle.std.proofs.lemmas.Grind.{flat_map-append}
use Rattle.std.proofs.lemmas.List.{drop_more}
use Rattle.recorder.specs.declared.row.Row.{Row}
use Rattle.recorder.specs.Histories.{Recorded}
use Rattle.counted_devices.specs.Sendings.{Leaves, AppendsPrefix}
use Rattle.counted_devices.proofs.Leaving.{Leaves-more, AppendsPrefix-more}
use Rattle.file_format.specs.declared.file_header.FileHeader.{FileHeader}
use Rattle.file_format.specs.declared.hall_row.HallRow.{HallRow}
use Rattle.file_format.specs.FileHeaders.{written_hall}
use Rattle.file_format.specs.Texts.{hall_row_data, line_text, row_text_with, rows_from}
use Rattle.file_format.proofs.RowsByHall.{tagged}

abbrev pub line_of : FileHeader → HallRow → List ℕ
line_of header placed = line_text (hall_row_data header placed)

abbrev pub lines_from : FileHeader → ℕ → List Recorded → List ℕ
lines_from header hall halls = flat_map (line_of header) (rows_from hall halls)

lines_tagged : (header : FileHeader) (hall : ℕ) (rows : List Row) → flat_map (line_of header) (tagged hall rows)
    ≡ flat_map (row_text_with (written_hall header hall)) rows
lines_tagged header hall [] = refl
lines_tagged header hall (row ∷ rows) =
    ap (λ (s : List ℕ). row_text_with (written_hall header hall) row ++ s) (lines_tagged header hall rows)

pub lines_more : (header : FileHeader) (hall : ℕ) (history : Recorded) (halls : List Recorded) → lines_from header hall (history ∷ halls)
    ≡ flat_map (row_text_with (written_hall header hall)) history.rows ++ lines_from header (suc hall) halls
lines_more header hall history halls =
    flat_map-append (line_of header) (tagged hall history.rows) (rows_from (suc hall) halls)
    ∙ ap (λ (s : List ℕ). s ++ lines_from header (suc hall) halls) (lines_tagged header hall history.rows)

hall_ahead : (header : FileHeader) (batch : List ℕ) (halls : List Recorded) (hall : ℕ) (history : Recorded) → hall < length halls
    → history ≡ get_or halls hall history → batch ++ lines_from header hall (drop hall halls)
    ≡ (batch ++ flat_map (row_text_with (written_hall header hall)) history.rows) ++ lines_from header (hall + 1) (drop (hall + 1) halls)
hall_ahead header batch halls hall history lt at =
    let next : suc hall ≡ hall + 1 = omega arith in
    ap (λ (hs : List Recorded). batch ++ lines_from header hall hs) (drop_more halls hall history lt
    ∙ ap (λ (h : Recorded). h ∷ drop (hall + 1) halls) (sym at))
    ∙ ap (λ (s : List ℕ). batch ++ s) (lines_more header hall history (drop (hall + 1) halls)
    ∙ ap (λ (n : ℕ). flat_map (row_text_with (written_hall header hall)) history.rows ++ lines_from header n (drop (hall + 1) halls)) next)
    ∙ sym (append_assoc batch (flat_map (row_text_with (written_hall header hall)) history.rows)
    (lines_from header (hall + 1) (drop (hall + 1) halls)))

pub none_ahead : (header : FileHeader) (batch : List ℕ) (halls : List Recorded) (hall : ℕ) → length halls ≤ hall → batch
    ++ lines_from header hall (drop hall halls) ≡ batch
none_ahead header batch halls hall over = ap (λ (hs : List Recorded). batch ++ lines_from header hall hs) (dropped halls hall over)
    ∙ append-nil batch
  where
    dropped : (hs : List Recorded) (n : ℕ) → length hs ≤ n → drop n hs ≡ []
    dropped [] zero le = refl
    dropped [] (suc n) le = refl
    dropped (h ∷ hs) zero le = absurd (omega arith)
    dropped (h ∷ hs) (suc n) le = dropped hs n (omega arith)

-- what went out of a text that goes on with the lines of halls
module _ (header : FileHeader) (a b c : Option (List ℕ)) (text batch : List ℕ) (halls : List Recorded) (hall : ℕ) where
  pub Leaves-hall : (history : Recorded) (rest : List ℕ) → hall < length halls → history ≡ get_or halls hall history
      → Leaves a b text (batch ++ lines_from header hall (drop hall halls))
      → Leaves b c (batch ++ flat_map (row_text_with (written_hall header hall)) history.rows) rest
      → Leaves a c text (rest ++ lines_from header (hall + 1) (drop (hall + 1) halls))
  Leaves-hall history rest lt at left sent =
      let P : List ℕ → Type 0 = λ r. Leaves a b text r in
      Leaves-more a b c text (batch ++ flat_map (row_text_with (written_hall header hall)) history.rows)
      (lines_from header (hall + 1) (drop (hall + 1) halls)) rest (subst P (hall_ahead header batch halls hall history lt at) left)
      sent

  pub AppendsPrefix-hall : (history : Recorded) → hall < length halls → history ≡ get_or halls hall history
      → Leaves a b text (batch ++ lines_from header hall (drop hall halls))
      → AppendsPrefix b c (batch ++ flat_map (row_text_with (written_hall header hall)) history.rows) → AppendsPrefix a c text
  AppendsPrefix-hall history lt at left begun =
      let P : List ℕ → Type 0 = λ r. Leaves a b text r in
      AppendsPrefix-more a b c text (batch ++ flat_map (row_text_with (written_hall header hall)) history.rows)
      (lines_from header (hall + 1) (drop (hall + 1) halls)) (subst P (hall_ahead header batch halls hall history lt at) left) begun
