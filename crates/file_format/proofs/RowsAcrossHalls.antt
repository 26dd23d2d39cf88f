-- Rows of several halls, one after another: what one row more makes of each hall, and the fault that it has.
use Rattle.std.proofs.Common.{ℕ, zero, suc, ◌≡◌, ◌≢◌, ◌<◌, ◌≤◌, ◌+◌, ◌⊎◌, inl, inr, List, [], ◌∷◌}
use Rattle.std.proofs.Common.{◌++◌, Bool, true, false, cond, Some, length, set, map, nat_eq, refl}
use Rattle.std.proofs.Common.{sym, ap, ◌∙◌, subst, arith, append-nil, eq-eqb}
use Rattle.std.specs.List.{slice_get, filter}
use Rattle.std.proofs.lemmas.Bool.{cases_eq, cases_lt, ne_eqb}
use Rattle.std.proofs.lemmas.List.{map-append, length-set}
use Rattle.std.proofs.lemmas.List.Elements.{filter-append}
use Rattle.std.proofs.lemmas.List.Sums.{sum_by-cons}
use Rattle.std.proofs.lemmas.Option.{slice_get_within}
use Rattle.tag.proofs.Lists.{slice_get-set, push_cases}
use Rattle.recorder.specs.declared.row.Row.{Row}
use Rattle.recorder.specs.declared.row.Row.TheVariants.{Invoke, Note, Respond}
use Rattle.recorder.specs.Answers.{with_row}
use Rattle.recorder.specs.Halls.{RecordedHalls, FallsTo, hall_calls}
use Rattle.recorder.specs.Histories.{Recorded, IsWellFormed, is_invoke, call_count}
use Rattle.file_format.specs.declared.fault.LineFault.{LineFault}
use Rattle.file_format.specs.declared.fault.LineFault.TheVariants.{Range, KeyInAnotherHall}
use Rattle.file_format.specs.declared.file_header.FileHeader.{FileHeader}
use Rattle.file_format.specs.declared.hall_row.HallRow.{HallRow}
use Rattle.file_format.specs.FileHeaders.{halls_in}
use Rattle.file_format.specs.HallPlaces.{row_in_hall, rows_of, calls_together, IsOfItsHall, IsMisplacedInHall}
use Rattle.file_format.specs.HistoriesFormat.{AreHistories, MakesHistories, histories_format}
use Rattle.file_format.specs.Places.{IsOneTooMany, IsMisplacedAfter}
use Rattle.file_format.proofs.OneFault.{IsSharp}
use Rattle.file_format.proofs.SharpFormats.{calls-append, slice_get-here, one_misplaced, never_misplaced, has_room}

-- ---- the rows of a hall

chosen : (b : Bool) (item : HallRow) → b ≡ true → map row_in_hall (cond b (item ∷ []) []) ≡ item.row ∷ []
chosen true item e = refl
chosen false item e = absurd (cc)

left_out : (b : Bool) (item : HallRow) → b ≡ false → map row_in_hall (cond b (item ∷ []) []) ≡ []
left_out true item e = absurd (cc)
left_out false item e = refl

pub rows-append : (hall : ℕ) (xs ys : List HallRow) → rows_of hall (xs ++ ys) ≡ rows_of hall xs ++ rows_of hall ys
rows-append hall xs ys =
    let test : HallRow → Bool = λ item. nat_eq item.hall hall in
    ap (map row_in_hall) (filter-append test xs ys) ∙ map-append row_in_hall (filter test xs) (filter test ys)

pub one_here : (hall : ℕ) (item : HallRow) → item.hall ≡ hall → rows_of hall (item ∷ []) ≡ item.row ∷ []
one_here hall item here = chosen (nat_eq item.hall hall) item (eq-eqb item.hall hall here)

pub one_apart : (hall : ℕ) (item : HallRow) → item.hall ≢ hall → rows_of hall (item ∷ []) ≡ []
one_apart hall item apart = left_out (nat_eq item.hall hall) item (ne_eqb item.hall hall apart)

pub rows_here : (items : List HallRow) (item : HallRow) → rows_of item.hall (items ++ item ∷ []) ≡ rows_of item.hall items ++ item.row ∷ []
rows_here items item = rows-append item.hall items (item ∷ [])
    ∙ ap (λ (rs : List Row). rows_of item.hall items ++ rs) (one_here item.hall item refl)

pub rows_apart : (hall : ℕ) (items : List HallRow) (item : HallRow) → item.hall ≢ hall → rows_of hall (items ++ item ∷ [])
    ≡ rows_of hall items
rows_apart hall items item apart = rows-append hall items (item ∷ [])
    ∙ ap (λ (rs : List Row). rows_of hall items ++ rs) (one_apart hall item apart) ∙ append-nil (rows_of hall items)

-- ---- how many calls there are

abbrev pub begins : Row → ℕ
begins row = cond (is_invoke row) 1 0

pub calls_more : (rows : List Row) (row : Row) → call_count (rows ++ row ∷ []) ≡ call_count rows + begins row
calls_more rows row = calls-append rows (row ∷ []) ∙ omega arith

pub together_more : (items : List HallRow) (item : HallRow) → calls_together (items ++ item ∷ []) ≡ calls_together items + begins item.row
together_more items item = ap call_count (map-append row_in_hall items (item ∷ [])) ∙ calls_more (map row_in_hall items) item.row

-- so many calls begin in the halls below a number
calls_below : ℕ → List HallRow → ℕ
calls_below zero items = 0
calls_below (suc n) items = calls_below n items + call_count (rows_of n items)

below_none : (n : ℕ) → calls_below n [] ≡ 0
unfolding calls_below
below_none zero = refl
below_none (suc n) = omega (arith, below_none n)

rows_first : (hall : ℕ) (item : HallRow) (items : List HallRow) → rows_of hall (item ∷ items) ≡ rows_of hall (item ∷ [])
    ++ rows_of hall items
rows_first hall item items = rows-append hall (item ∷ []) items

count_apart : (hall : ℕ) (item : HallRow) (items : List HallRow) → item.hall ≢ hall → call_count (rows_of hall (item ∷ items))
    ≡ call_count (rows_of hall items)
count_apart hall item items apart =
    ap call_count (rows_first hall item items ∙ ap (λ (rs : List Row). rs ++ rows_of hall items) (one_apart hall item apart))

count_here : (hall : ℕ) (item : HallRow) (items : List HallRow) → item.hall ≡ hall → call_count (rows_of hall (item ∷ items))
    ≡ begins item.row + call_count (rows_of hall items)
count_here hall item items here =
    ap call_count (rows_first hall item items ∙ ap (λ (rs : List Row). rs ++ rows_of hall items) (one_here hall item here))

below_apart : (n : ℕ) (item : HallRow) (items : List HallRow) → n ≤ item.hall → calls_below n (item ∷ items) ≡ calls_below n items
unfolding calls_below
below_apart zero item items above = refl
below_apart (suc n) item items above = omega (arith, below_apart n item items (omega arith), count_apart n item items (λ e. omega arith))

below_here : (n : ℕ) (item : HallRow) (items : List HallRow) → item.hall < n → calls_below n (item ∷ items)
    ≡ begins item.row + calls_below n items
unfolding calls_below
below_here zero item items under = absurd (omega arith)
below_here (suc n) item items under =
    elim (cases_eq item.hall n) [
      | inl here ↦ omega (arith, below_apart n item items (omega arith), count_here n item items here)
      | inr apart ↦ omega (arith, below_here n item items (omega arith), count_apart n item items apart)
    ]

-- where each row is of a hall below the number, that is all calls
abbrev AreBelow : ℕ → List HallRow → Type 0
AreBelow n items = (k : ℕ) (item : HallRow) → slice_get items k ≡ Some item → item.hall < n

below_all : (n : ℕ) (items : List HallRow) → AreBelow n items → calls_below n items ≡ calls_together items
below_all n [] h = below_none n
below_all n (item ∷ items) h = omega (arith, below_here n item items (h 0 item refl), below_all n items (λ k other e. h (suc k) other e))

-- the halls' histories, where each has its rows
abbrev AreOf : List HallRow → List Recorded → Type 0
AreOf items halls = (hall : ℕ) (history : Recorded) → slice_get halls hall ≡ Some history → call_count history.rows
    ≡ call_count (rows_of hall items)

-- counted from the last hall down
halls_from : (items : List HallRow) (first : ℕ) (halls : List Recorded)
    → ((hall : ℕ) (history : Recorded) → slice_get halls hall ≡ Some history → call_count history.rows
    ≡ call_count (rows_of (first + hall) items)) → calls_below first items + hall_calls halls ≡ calls_below (first + length halls) items
unfolding calls_below
halls_from items first [] h = let same : first + 0 ≡ first = omega arith in rw same (omega arith)
halls_from items first (history ∷ halls) h =
    let here : first + 0 ≡ first = omega arith in
    let next : first + suc (length halls) ≡ suc first + length halls = omega arith in
    let own : call_count history.rows ≡ call_count (rows_of first items) = h 0 history refl
    ∙ ap (λ (n : ℕ). call_count (rows_of n items)) here in
    let more = halls_from items (suc first) halls (λ hall other e. h (suc hall) other e
    ∙ ap (λ (n : ℕ). call_count (rows_of n items)) (shift first hall)) in
    rw next (omega (arith, more, own, sum_by-cons (λ (r : Recorded). call_count r.rows) history halls, below_next first))
  where
    shift : (first hall : ℕ) → first + suc hall ≡ suc first + hall
    shift first hall = omega arith

    below_next : (n : ℕ) → calls_below (suc n) items ≡ calls_below n items + call_count (rows_of n items)
    below_next n = refl

none_below : (items : List HallRow) → calls_below 0 items ≡ 0
unfolding calls_below
none_below items = refl

pub all_calls : (header : FileHeader) (items : List HallRow) (histories : RecordedHalls) → MakesHistories header items histories
    → AreHistories header items → hall_calls histories.halls ≡ calls_together items
all_calls header items histories made fits =
    let counted = halls_from items 0 histories.halls
    (λ hall history e. ap (λ (h : Recorded). call_count h.rows) (made.each hall history e)
    ∙ ap (λ (n : ℕ). call_count (rows_of n items)) (below_zero hall)) in
    let whole : calls_below (0 + length histories.halls) items ≡ calls_below (halls_in header) items =
    ap (λ (n : ℕ). calls_below n items) (plain (length histories.halls) ∙ made.count) in
    let everything = below_all (halls_in header) items (λ k item e. (fits.placed k item e).below) in
    omega (arith, counted, whole, everything, none_below items)
  where
    below_zero : (n : ℕ) → n ≡ 0 + n
    below_zero n = omega arith

    plain : (n : ℕ) → 0 + n ≡ n
    plain n = omega arith

-- ---- a row more

pub record IsNext (header : FileHeader) (items : List HallRow) (old : RecordedHalls) (item : HallRow) (history : Recorded) : Type 0 where
  pub made : MakesHistories header items old
  pub fits : AreHistories header items
  pub placed : IsOfItsHall (halls_in header) item
  pub here : slice_get old.halls item.hall ≡ Some history

-- at the end of its hall's rows
own_rows : (header : FileHeader) (items : List HallRow) (old : RecordedHalls) (item : HallRow) (history : Recorded)
    → IsNext header items old item history → history ≡ record { rows = rows_of item.hall items; limit = 1000000 }
own_rows header items old item history h = h.made.each item.hall history h.here

pub few_more : (calls : ℕ) (row : Row) → calls ≤ 1000000 → (IsOneTooMany calls row → ⊥) → calls + begins row ≤ 1000000
few_more calls (Invoke op client key action) few room =
    elim (cases calls) [ inl many ↦ absurd (room many) | inr less ↦ omega (arith, less) ]
  where
    cases : (n : ℕ) → (1000000 ≤ n) ⊎ (n < 1000000)
    cases n = elim (cases_lt n 1000000) [ inl less ↦ inr less | inr many ↦ inl many ]
few_more calls (Note op tag) few room = omega (arith, few)
few_more calls (Respond op returned) few room = omega (arith, few)

pub fits_more : (header : FileHeader) (items : List HallRow) (old : RecordedHalls) (item : HallRow) (history : Recorded)
    → IsNext header items old item history → IsWellFormed (history.rows ++ item.row ∷ [])
    → (IsOneTooMany (hall_calls old.halls) item.row → ⊥) → AreHistories header (items ++ item ∷ [])
fits_more header items old item history h formed room = record {
  formed = λ hall. elim (cases_eq item.hall hall) [
    | inl here ↦
        let own = ap (λ (r : Recorded). r.rows) (own_rows header items old item history h) in
        let P : ℕ → Type 0 = λ n. IsWellFormed (rows_of n (items ++ item ∷ [])) in
        subst P here (subst IsWellFormed (sym (rows_here items item))
        (subst (λ (rs : List Row). IsWellFormed (rs ++ item.row ∷ [])) own formed))
    | inr apart ↦ subst IsWellFormed (sym (rows_apart hall items item apart)) (h.fits.formed hall)
  ];
  placed = λ k other e. elim (push_cases items item k other e) [
    | inl old_one ↦ h.fits.placed k other old_one
    | inr new_one ↦ subst (λ (i : HallRow). IsOfItsHall (halls_in header) i) new_one.1 h.placed
  ];
  few =
      let calls = all_calls header items old h.made h.fits in
      let room_there : IsOneTooMany (calls_together items) item.row → ⊥ = subst (λ (n : ℕ). IsOneTooMany n item.row → ⊥) calls room in
      omega (arith, together_more items item, few_more (calls_together items) item.row h.fits.few room_there);
}

pub makes_more : (header : FileHeader) (items : List HallRow) (old new : RecordedHalls) (item : HallRow) (history : Recorded)
    → IsNext header items old item history → new.halls ≡ set old.halls item.hall (with_row history item.row) → new.quorums ≡ old.quorums
    → MakesHistories header (items ++ item ∷ []) new
makes_more header items old new item history h halls quorums = record {
  count = ap length halls ∙ length-set old.halls item.hall (with_row history item.row) ∙ h.made.count;
  each = λ hall other e.
      let there : slice_get (set old.halls item.hall (with_row history item.row)) hall ≡ Some other =
      ap (λ (hs : List Recorded). slice_get hs hall) (sym halls) ∙ e in
      elim (slice_get-set old.halls item.hall hall (with_row history item.row) (slice_get_within old.halls item.hall history h.here)) [
        | inl same ↦
            let is : Some (with_row history item.row) ≡ Some other = sym same.1 ∙ there in
            let own : with_row history item.row ≡ record { rows = rows_of item.hall (items ++ item ∷ []); limit = 1000000 } = own_more in
            inside_some (sym is) ∙ own ∙ ap (λ (n : ℕ). record { rows = rows_of n (items ++ item ∷ []); limit = 1000000 }) (sym same.0)
        | inr apart ↦
            h.made.each hall other (sym apart.1 ∙ there)
            ∙ ap (λ (rs : List Row). record { rows = rs; limit = 1000000 }) (sym (rows_apart hall items item (λ e. apart.0 (sym e))))
      ];
  told = quorums ∙ h.made.told;
}
  where
    inside_some : {X : Type 0} {x y : X} → Some x ≡ Some y → x ≡ y
    inside_some e = cc

    own_more : with_row history item.row ≡ record { rows = rows_of item.hall (items ++ item ∷ []); limit = 1000000 }
    own_more = ap (λ (r : Recorded). with_row r item.row) (own_rows header items old item history h)
        ∙ ap (λ (rs : List Row). record { rows = rs; limit = 1000000 }) (sym (rows_here items item))

-- a fault among its hall's rows is one among all rows
pub in_hall : (halls : ℕ) (items : List HallRow) (item : HallRow) (f : LineFault) → IsOfItsHall halls item
    → IsMisplacedAfter (calls_together items) (rows_of item.hall items) item.row f → IsMisplacedInHall halls items item f
in_hall halls items item Range placed h = absurd h
in_hall halls items item KeyInAnotherHall placed h = absurd h
in_hall halls items item _ placed h = (placed, h)

pub misplaced : (header : FileHeader) (items : List HallRow) (old : RecordedHalls) (item : HallRow) (history : Recorded) (f : LineFault)
    → IsNext header items old item history → IsMisplacedAfter (hall_calls old.halls) history.rows item.row f
    → IsMisplacedInHall (halls_in header) items item f
misplaced header items old item history f h bad =
    let own = ap (λ (r : Recorded). r.rows) (own_rows header items old item history h) in
    let calls = all_calls header items old h.made h.fits in
    in_hall (halls_in header) items item f h.placed
    (subst (λ (n : ℕ). IsMisplacedAfter n (rows_of item.hall items) item.row f) calls
    (subst (λ (rs : List Row). IsMisplacedAfter (hall_calls old.halls) rs item.row f) own bad))

-- ---- one fault

data Kind (halls : ℕ) (items : List HallRow) (item : HallRow) (f : LineFault) : Type 0 where
  no_hall : f ≡ Range → halls ≤ item.hall → Kind halls items item f
  another : f ≡ KeyInAnotherHall → item.hall < halls → (FallsTo halls item.hall item.row → ⊥) → Kind halls items item f
  behind : IsOfItsHall halls item → IsMisplacedAfter (calls_together items) (rows_of item.hall items) item.row f → Kind halls items item f

kind_of : (halls : ℕ) (items : List HallRow) (item : HallRow) (f : LineFault) → IsMisplacedInHall halls items item f
    → Kind halls items item f
kind_of halls items item Range h = no_hall refl h
kind_of halls items item KeyInAnotherHall h = another refl h.below h.apart
kind_of halls items item _ h = behind h.0 h.1

same_kind : (halls : ℕ) (items : List HallRow) (item : HallRow) (f g : LineFault) → Kind halls items item f → Kind halls items item g → f
    ≡ g
same_kind halls items item f g (no_hall e h) (no_hall k i) = e ∙ sym k
same_kind halls items item f g (no_hall e h) (another k i j) = absurd (omega (arith, h, i))
same_kind halls items item f g (no_hall e h) (behind p b) = absurd (omega (arith, h, p.below))
same_kind halls items item f g (another e h i) (no_hall k j) = absurd (omega (arith, h, j))
same_kind halls items item f g (another e h i) (another k j l) = e ∙ sym k
same_kind halls items item f g (another e h i) (behind p b) = absurd (i p.falls)
same_kind halls items item f g (behind p b) (no_hall k i) = absurd (omega (arith, i, p.below))
same_kind halls items item f g (behind p b) (another k i j) = absurd (j p.falls)
same_kind halls items item f g (behind p b) (behind q c) = one_misplaced (calls_together items) (rows_of item.hall items) item.row f g b c

rows_on : (items : List HallRow) (item : HallRow) (more : List HallRow) → rows_of item.hall (items ++ item ∷ more)
    ≡ rows_of item.hall items ++ item.row ∷ rows_of item.hall more
rows_on items item more =
    rows-append item.hall items (item ∷ more)
    ∙ ap (λ (rs : List Row). rows_of item.hall items ++ rs) (rows_first item.hall item more
    ∙ ap (λ (rs : List Row). rs ++ rows_of item.hall more) (one_here item.hall item refl))

never_faulty : (header : FileHeader) (items : List HallRow) (item : HallRow) (more : List HallRow) (f : LineFault)
    → AreHistories header (items ++ item ∷ more) → Kind (halls_in header) items item f → ⊥
never_faulty header items item more f fits (no_hall e h) =
    omega (arith, h, (fits.placed (length items) item (slice_get-here items item more)).below)
never_faulty header items item more f fits (another e h i) = i (fits.placed (length items) item (slice_get-here items item more)).falls
never_faulty header items item more f fits (behind p b) =
    let few = subst (λ (rs : List Row). call_count rs ≤ 1000000) (map-append row_in_hall items (item ∷ more)) fits.few in
    never_misplaced (calls_together items) (rows_of item.hall items) item.row (rows_of item.hall more) f
    (subst IsWellFormed (rows_on items item more) (fits.formed item.hall))
    (has_room (map row_in_hall items) item.row (map row_in_hall more) few) b

pub histories_sharp : IsSharp histories_format
histories_sharp = record {
  one = λ header items item f g h k.
      same_kind (halls_in header) items item f g (kind_of (halls_in header) items item f h) (kind_of (halls_in header) items item g k);
  none = λ header items item more f h k. never_faulty header items item more f h (kind_of (halls_in header) items item f k);
}
