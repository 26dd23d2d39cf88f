-- The rows of histories by hall, one hall after another: each hall has its own again.
use Rattle.std.proofs.Common.{ℕ, zero, suc, ◌≡◌, ◌≢◌, ◌<◌, ◌≤◌, ◌+◌, inl, inr, List, [], ◌∷◌}
use Rattle.std.proofs.Common.{◌++◌, Some, None, length, map, refl, sym, ap, ap₂, ◌∙◌, subst, arith}
use Rattle.std.proofs.Common.{append-nil}
use Rattle.std.specs.List.{slice_get}
use Rattle.std.proofs.lemmas.Bool.{cases_lt}
use Rattle.std.proofs.lemmas.List.{map-append}
use Rattle.std.proofs.lemmas.List.Sums.{sum_by-cons}
use Rattle.std.proofs.lemmas.Option.{slice_get_within, get_or_from_slice_get}
use Rattle.tag.proofs.Lists.{get_at, in_either}
use Rattle.recorder.specs.declared.row.Row.{Row}
use Rattle.recorder.specs.Halls.{RecordedHalls, AreHalls, IsHallOf, FallsTo, hall_calls}
use Rattle.recorder.specs.Histories.{Recorded, IsWellFormed, call_count}
use Rattle.file_format.specs.declared.file_header.FileHeader.{FileHeader}
use Rattle.file_format.specs.declared.hall_row.HallRow.{HallRow}
use Rattle.file_format.specs.FileHeaders.{halls_in, quorums_in, header_with}
use Rattle.file_format.specs.HallPlaces.{row_in_hall, rows_of, calls_together}
use Rattle.file_format.specs.HistoriesFormat.{AreHistories, MakesHistories}
use Rattle.file_format.specs.Ranges.{HaveFormed}
use Rattle.file_format.specs.ReadAgain.{with_room}
use Rattle.file_format.specs.Texts.{header_of_histories, rows_from}
use Rattle.file_format.proofs.RowsAcrossHalls.{rows-append, one_here, one_apart}
use Rattle.file_format.proofs.SharpFormats.{calls-append}

-- ---- rows of one hall

abbrev pub tagged : ℕ → List Row → List HallRow
tagged hall rows = map (λ row. record { hall = hall; row = row }) rows

pub rows_tagged : (hall : ℕ) (rows : List Row) → rows_of hall (tagged hall rows) ≡ rows
rows_tagged hall [] = refl
rows_tagged hall (row ∷ rows) =
    let one : HallRow = record { hall = hall; row = row } in
    rows-append hall (one ∷ []) (tagged hall rows) ∙ ap₂ (λ (a b : List Row). a ++ b) (one_here hall one refl) (rows_tagged hall rows)

rows_elsewhere : (hall other : ℕ) (rows : List Row) → hall ≢ other → rows_of other (tagged hall rows) ≡ []
rows_elsewhere hall other [] apart = refl
rows_elsewhere hall other (row ∷ rows) apart =
    let one : HallRow = record { hall = hall; row = row } in
    rows-append other (one ∷ []) (tagged hall rows)
    ∙ ap₂ (λ (a b : List Row). a ++ b) (one_apart other one apart) (rows_elsewhere hall other rows apart)

pub plain_tagged : (hall : ℕ) (rows : List Row) → map row_in_hall (tagged hall rows) ≡ rows
plain_tagged hall [] = refl
plain_tagged hall (row ∷ rows) = ap (λ (rs : List Row). row ∷ rs) (plain_tagged hall rows)

-- ---- rows of several halls

rows_under : (first : ℕ) (halls : List Recorded) (k : ℕ) → k < first → rows_of k (rows_from first halls) ≡ []
rows_under first [] k under = refl
rows_under first (history ∷ halls) k under =
    rows-append k (tagged first history.rows) (rows_from (suc first) halls)
    ∙ ap₂ (λ (a b : List Row). a ++ b) (rows_elsewhere first k history.rows (λ e. omega arith))
    (rows_under (suc first) halls k (omega arith))

rows_over : (first : ℕ) (halls : List Recorded) (k : ℕ) → first + length halls ≤ k → rows_of k (rows_from first halls) ≡ []
rows_over first [] k over = refl
rows_over first (history ∷ halls) k over =
    rows-append k (tagged first history.rows) (rows_from (suc first) halls)
    ∙ ap₂ (λ (a b : List Row). a ++ b) (rows_elsewhere first k history.rows (λ e. omega arith))
    (rows_over (suc first) halls k (omega arith))

rows_there : (first : ℕ) (halls : List Recorded) (k hall : ℕ) (history : Recorded) → k ≡ first + hall → slice_get halls hall
    ≡ Some history → rows_of k (rows_from first halls) ≡ history.rows
rows_there first [] k hall history is e = absurd (cc)
rows_there first (h ∷ halls) k zero history is e =
    let same : h ≡ history = cc in
    let here : first ≡ k = omega arith in
    rows-append k (tagged first h.rows) (rows_from (suc first) halls)
    ∙ ap₂ (λ (a b : List Row). a ++ b) (subst (λ (n : ℕ). rows_of n (tagged first h.rows) ≡ h.rows) here (rows_tagged first h.rows))
    (rows_under (suc first) halls k (omega arith))
    ∙ append-nil h.rows ∙ ap (λ (r : Recorded). r.rows) same
rows_there first (h ∷ halls) k (suc hall) history is e =
    rows-append k (tagged first h.rows) (rows_from (suc first) halls)
    ∙ ap₂ (λ (a b : List Row). a ++ b) (rows_elsewhere first k h.rows (λ same. omega arith))
    (rows_there (suc first) halls k hall history (omega arith) e)

calls_from : (first : ℕ) (halls : List Recorded) → calls_together (rows_from first halls) ≡ hall_calls halls
calls_from first [] = omega arith
calls_from first (history ∷ halls) =
    let both : map row_in_hall (tagged first history.rows ++ rows_from (suc first) halls) ≡ history.rows
    ++ map row_in_hall (rows_from (suc first) halls) =
    map-append row_in_hall (tagged first history.rows) (rows_from (suc first) halls)
    ∙ ap (λ (rs : List Row). rs ++ map row_in_hall (rows_from (suc first) halls)) (plain_tagged first history.rows) in
    ap call_count both ∙ calls-append history.rows (map row_in_hall (rows_from (suc first) halls))
    ∙ omega (arith, calls_from (suc first) halls, sum_by-cons (λ (h : Recorded). call_count h.rows) history halls)

-- where a row of the whole list is from
pub record IsFrom (first : ℕ) (halls : List Recorded) (item : HallRow) : Type 0 where
  pub hall : ℕ
  pub history : Recorded
  pub there : slice_get halls hall ≡ Some history
  pub named : item.hall ≡ first + hall
  pub place : ℕ
  pub row : slice_get history.rows place ≡ Some item.row

in_tagged : (hall : ℕ) (rows : List Row) (k : ℕ) (item : HallRow) → slice_get (tagged hall rows) k ≡ Some item → (item.hall ≡ hall)
    × (slice_get rows k ≡ Some item.row)
in_tagged hall [] k item e = absurd (cc)
in_tagged hall (row ∷ rows) zero item e = let same : record { hall = hall; row = row } ≡ item = cc in
    (ap (λ (i : HallRow). i.hall) (sym same), ap (λ (i : HallRow). Some i.row) same)
in_tagged hall (row ∷ rows) (suc k) item e = in_tagged hall rows k item e

pub is_from : (first : ℕ) (halls : List Recorded) (k : ℕ) (item : HallRow) → slice_get (rows_from first halls) k ≡ Some item
    → IsFrom first halls item
is_from first [] k item e = absurd (cc)
is_from first (history ∷ halls) k item e =
    elim (in_either (tagged first history.rows) (rows_from (suc first) halls) k item e) [
      | inl here ↦
          let t = in_tagged first history.rows k item here in
          record { hall = 0; history = history; there = refl; named = omega (arith, t.0); place = k; row = t.1 }
      | inr later ↦
          let f = is_from (suc first) halls later.0 item later.1 in
          record { hall = suc f.hall; history = f.history; there = f.there; named = omega (arith, f.named); place = f.place; row = f.row }
    ]

-- ---- they are a file's rows

pub count_of_halls : (histories : RecordedHalls) → AreHalls histories → halls_in (header_of_histories histories) ≡ length histories.halls
count_of_halls histories h = at histories.quorums refl
  where
    at : (quorums : _) → histories.quorums ≡ quorums → halls_in (header_with (length histories.halls) quorums) ≡ length histories.halls
    at None e = sym (h.one e)
    at (Some quorums) e = refl

pub told_quorums : (histories : RecordedHalls) → quorums_in (header_of_histories histories) ≡ histories.quorums
told_quorums histories = at histories.quorums
  where
    at : (quorums : _) → quorums_in (header_with (length histories.halls) quorums) ≡ quorums
    at None = refl
    at (Some quorums) = refl

falls_at : (halls hall : ℕ) (rows : List Row) (k : ℕ) (row : Row) → IsHallOf halls hall rows → slice_get rows k ≡ Some row
    → FallsTo halls hall row
falls_at halls hall rows k row h e =
    subst (λ (r : Row). FallsTo halls hall r) (get_or_from_slice_get rows k row row e) (h k row (slice_get_within rows k row e))

pub fits_again : (histories : RecordedHalls) → AreHalls histories → HaveFormed histories.halls
    → AreHistories (header_of_histories histories) (rows_from 0 histories.halls)
fits_again histories h formed = record {
  formed = λ hall. elim (cases_lt hall (length histories.halls)) [
    | inl within ↦
        let at = get_at histories.halls hall within in
        subst IsWellFormed (sym (rows_there 0 histories.halls hall hall at.0 (omega arith) at.1)) (formed hall at.0 at.1)
    | inr beyond ↦ subst IsWellFormed (sym (rows_over 0 histories.halls hall (omega arith))) (λ k row e. absurd (cc))
  ];
  placed = λ k item e.
      let f = is_from 0 histories.halls k item e in
      let count = count_of_halls histories h in
      let named : f.hall ≡ item.hall = omega (arith, f.named) in
      let falls : FallsTo (length histories.halls) f.hall item.row =
      falls_at (length histories.halls) f.hall f.history.rows f.place item.row (h.keys f.hall f.history f.there) f.row in
      let below : item.hall < length histories.halls = omega (arith, f.named, slice_get_within histories.halls f.hall f.history f.there) in
      record {
        below = omega (arith, below, count);
        falls = subst (λ (n : ℕ). FallsTo n item.hall item.row) (sym count)
            (subst (λ (n : ℕ). FallsTo (length histories.halls) n item.row) named falls);
      };
  few = omega (arith, calls_from 0 histories.halls, h.calls);
}

mapped : (halls : List Recorded) (k : ℕ) (history : Recorded) → slice_get (with_room halls) k ≡ Some history → (own : Recorded)
    × (slice_get halls k ≡ Some own) × (history ≡ record { rows = own.rows; limit = 1000000 })
mapped [] k history e = absurd (cc)
mapped (h ∷ halls) zero history e = (h, refl, cc)
mapped (h ∷ halls) (suc k) history e = mapped halls k history e

room_length : (halls : List Recorded) → length (with_room halls) ≡ length halls
room_length [] = refl
room_length (h ∷ halls) = ap suc (room_length halls)

pub made_again : (histories : RecordedHalls) → AreHalls histories
    → MakesHistories (header_of_histories histories) (rows_from 0 histories.halls)
    (record { halls = with_room histories.halls; quorums = histories.quorums })
made_again histories h = record {
  count = room_length histories.halls ∙ sym (count_of_halls histories h);
  each = λ hall history e.
      let own = mapped histories.halls hall history e in
      own.2 ∙ ap (λ (rs : List Row). record { rows = rs; limit = 1000000 })
      (sym (rows_there 0 histories.halls hall hall own.0 (omega arith) own.1));
  told = sym (told_quorums histories);
}

-- ---- one list of histories is made

lists_same : {X : Type 0} (xs ys : List X) → length xs ≡ length ys
    → ((k : ℕ) (x y : X) → slice_get xs k ≡ Some x → slice_get ys k ≡ Some y → x ≡ y) → xs ≡ ys
lists_same [] [] long h = refl
lists_same [] (y ∷ ys) long h = absurd (omega (arith, long))
lists_same (x ∷ xs) [] long h = absurd (omega (arith, long))
lists_same (x ∷ xs) (y ∷ ys) long h =
    let first : x ≡ y = h 0 x y refl refl in
    let others : xs ≡ ys = lists_same xs ys (omega (arith, long)) (λ k a b e f. h (suc k) a b e f) in
    cc

pub made_once : (header : FileHeader) (items : List HallRow) (a b : RecordedHalls) → MakesHistories header items a
    → MakesHistories header items b → a ≡ b
made_once header items a b h k =
    let halls : a.halls ≡ b.halls = lists_same a.halls b.halls (h.count ∙ sym k.count) (λ n x y e f. h.each n x e ∙ sym (k.each n y f)) in
    let quorums : a.quorums ≡ b.quorums = h.told ∙ sym k.told in
    same a b halls quorums
  where
    same : (a b : RecordedHalls) → a.halls ≡ b.halls → a.quorums ≡ b.quorums → a ≡ b
    same a b e f = λ i. record { halls = e i; quorums = f i }
