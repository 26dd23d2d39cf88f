-- The lines of the rows of each hall: what one row more makes of them, and which row stands on each.
use Rattle.std.proofs.Common.{ℕ, zero, suc, ◌≡◌, ◌≢◌, ◌<◌, ◌+◌, ◌-◌, List, [], ◌∷◌, ◌++◌, Bool, true, false, cond, Some, Err, length, set, map, get_or, nat_eq, refl, sym, ap, ap₂, ◌∙◌, subst, inl, inr, arith, append-nil, eq-eqb, eqb-true}
use Rattle.std.specs.Prelude.{Option, IsSomeAnd, MatchOption, Vec}
use Rattle.std.specs.declared.alloc.Global.{Global}
use Rattle.line_files.specs.Steps.{StaysAtFault}
use Rattle.std.specs.List.{All, slice_get, filter, enumerate_from, range_with_len}
use Rattle.std.proofs.lemmas.Bool.{ne_eqb}
use Rattle.std.proofs.lemmas.List.{map-append, length-set}
use Rattle.std.proofs.lemmas.List.Elements.{filter-append}
use Rattle.std.proofs.lemmas.Option.{slice_get_within, get_or_from_slice_get}
use Rattle.std.proofs.lemmas.Slice.Zip.{AllZip-right}
use Rattle.tag.proofs.Lists.{slice_get-set, item_at}
use Rattle.recorder.specs.declared.row.Row.{Row}
use Rattle.recorder.specs.Histories.{Recorded}
use Rattle.file_format.specs.declared.file_header.FileHeader.{FileHeader}
use Rattle.file_format.specs.declared.file_header.FileHeader.TheVariants.{Version1}
use Rattle.file_format.specs.declared.hall_row.HallRow.{HallRow}
use Rattle.counted_devices.specs.Cuts.{last_lines}
use Rattle.file_format.specs.FileHeaders.{halls_in}
use Rattle.file_format.specs.Files.{AreSpelled, IsLineOf}
use Rattle.file_format.specs.HallPlaces.{row_in_hall, rows_of}
use Rattle.file_format.specs.HistoriesFormat.{histories_format, AreHistories, MakesHistories}
use Rattle.file_format.specs.Readings.{Reads}
use Rattle.file_format.specs.Formats.{Follows}
use Rattle.file_format.specs.Faults.{LineStop}
use Rattle.counted_devices.specs.declared.read_fault.Stop.TheVariants as stops
use Rattle.recorder.specs.Halls.{RecordedHalls}
use Rattle.history_file.specs.Making.{MakesNumberedHalls}
use Rattle.history_file.specs.declared.numbered_format.NumberedHalls.{NumberedHalls}
use Rattle.history_file.specs.declared.numbered_format.NumberedHistories.{NumberedHistories}
use Rattle.history_file.specs.NumberedRows.{line_in, lines_of, AreLinesByHall, MakesNumbered, StandsOn, AreLinesOfRows, LineSaysItem}

-- ---- one row more

-- the lines of a hall's rows, from that line on
abbrev lines_from : ℕ → ℕ → List HallRow → List ℕ
lines_from hall first items = map line_in (filter (λ (numbered : ℕ × HallRow). nat_eq numbered.1.hall hall) (enumerate_from first items))

enumerate_from-append : (first : ℕ) (xs ys : List HallRow) → enumerate_from first (xs ++ ys) ≡ enumerate_from first xs ++ enumerate_from (first + length xs) ys
enumerate_from-append first [] ys = let e : first ≡ first + 0 = omega arith in ap (λ (n : ℕ). enumerate_from n ys) e
enumerate_from-append first (x ∷ xs) ys =
    let e : first + 1 + length xs ≡ first + suc (length xs) = omega arith in
    ap (λ (rest : List (ℕ × HallRow)). (first, x) ∷ rest) (enumerate_from-append (first + 1) xs ys ∙ ap (λ (n : ℕ). enumerate_from (first + 1) xs ++ enumerate_from n ys) e)

lines_from-append : (hall first : ℕ) (xs ys : List HallRow) → lines_from hall first (xs ++ ys) ≡ lines_from hall first xs ++ lines_from hall (first + length xs) ys
lines_from-append hall first xs ys =
    let test : ℕ × HallRow → Bool = λ numbered. nat_eq numbered.1.hall hall in
    let front = enumerate_from first xs in
    let back = enumerate_from (first + length xs) ys in
    ap (λ (all : List (ℕ × HallRow)). map line_in (filter test all)) (enumerate_from-append first xs ys)
    ∙ ap (map line_in) (filter-append test front back) ∙ map-append line_in (filter test front) (filter test back)

chosen : (b : Bool) (line : ℕ) (item : HallRow) → b ≡ true → map line_in (cond b ((line, item) ∷ []) []) ≡ line ∷ []
chosen true line item e = refl
chosen false line item e = absurd (cc)

left_out : (b : Bool) (line : ℕ) (item : HallRow) → b ≡ false → map line_in (cond b ((line, item) ∷ []) []) ≡ []
left_out true line item e = absurd (cc)
left_out false line item e = refl

-- the row's line is the last of its hall's lines
line_here : (items : List HallRow) (item : HallRow) → lines_of item.hall (items ++ item ∷ []) ≡ lines_of item.hall items ++ (2 + length items) ∷ []
line_here items item =
    lines_from-append item.hall 2 items (item ∷ [])
    ∙ ap (λ (more : List ℕ). lines_of item.hall items ++ more) (chosen (nat_eq item.hall item.hall) (2 + length items) item (eq-eqb item.hall item.hall refl))

-- other halls have the lines that they had
line_apart : (hall : ℕ) (items : List HallRow) (item : HallRow) → item.hall ≢ hall → lines_of hall (items ++ item ∷ []) ≡ lines_of hall items
line_apart hall items item apart =
    lines_from-append hall 2 items (item ∷ [])
    ∙ ap (λ (more : List ℕ). lines_of hall items ++ more) (left_out (nat_eq item.hall hall) (2 + length items) item (ne_eqb item.hall hall apart)) ∙ append-nil (lines_of hall items)

inside_some : {X : Type 0} {x y : X} → Some x ≡ Some y → x ≡ y
inside_some e = cc

-- a row's line more in its hall's list
AreLinesByHall-here : (header : FileHeader) (items : List HallRow) (item : HallRow) (lists : List (List ℕ)) (old new : List ℕ) (line : ℕ) → AreLinesByHall header items lists → slice_get lists item.hall ≡ Some old → new ≡ old ++ line ∷ [] → line ≡ length items + 2
    → AreLinesByHall header (items ++ item ∷ []) (set lists item.hall new)
AreLinesByHall-here header items item lists old new line h here more counted =
    let next : line ≡ 2 + length items = omega (arith, counted) in
    let own : new ≡ lines_of item.hall (items ++ item ∷ []) =
    more ∙ ap₂ (λ (ls : List ℕ) (l : ℕ). ls ++ l ∷ []) (h.each item.hall old here) next ∙ sym (line_here items item) in
    record {
      count = length-set lists item.hall new ∙ h.count;
      each = λ hall lines at.
          elim (slice_get-set lists item.hall hall new (slice_get_within lists item.hall old here)) [
            | inl same ↦
                let is : new ≡ lines = inside_some (sym same.1 ∙ at) in
                subst (λ (k : ℕ). lines ≡ lines_of k (items ++ item ∷ [])) (sym same.0) (sym is ∙ own)
            | inr apart ↦ h.each hall lines (sym apart.1 ∙ at) ∙ sym (line_apart hall items item (λ e. apart.0 (sym e)))
          ];
    }

pub AreLinesByHall-more : (header : FileHeader) (items : List HallRow) (item : HallRow) (lists : List (List ℕ)) (place : ℕ) (old new : List ℕ) (line : ℕ) → AreLinesByHall header items lists → place ≡ item.hall → place < length lists → old ≡ get_or lists place old → new ≡ old ++ line ∷ [] → line ≡ length items + 2
    → AreLinesByHall header (items ++ item ∷ []) (set lists place new)
AreLinesByHall-more header items item lists place old new line h is below read more counted =
    let here : slice_get lists item.hall ≡ Some old = subst (λ (k : ℕ). slice_get lists k ≡ Some old) is (item_at lists place old below read) in
    subst (λ (k : ℕ). AreLinesByHall header (items ++ item ∷ []) (set lists k new)) (sym is) (AreLinesByHall-here header items item lists old new line h here more counted)

-- lists without a line, before the first row
pub AreLinesByHall-none : (header : FileHeader) (lists : List (List ℕ)) → length lists ≡ halls_in header → All (λ (lines : List ℕ). lines ≡ []) lists → AreLinesByHall header [] lists
AreLinesByHall-none header lists count empty = record {
  count = count;
  each = λ hall lines at.
      subst (λ (v : List ℕ). v ≡ []) (get_or_from_slice_get lists hall lines lines at) (empty hall lines (slice_get_within lists hall lines at));
}

-- a row that isn't taken leaves no line
pub stops_too : (header : FileHeader) (items : List HallRow) (item : HallRow) (stop : LineStop) (halls : RecordedHalls) (numbered : NumberedHalls) → Follows histories_format MakesHistories header items item (Err stop) halls → Follows histories_format MakesNumberedHalls header items item (Err stop) numbered
stops_too header items item (stops.Fault fault) halls numbered h = h
stops_too header items item stops.Memory halls numbered h = tt

pub kept_too : (header : FileHeader) (items : List HallRow) (old : RecordedHalls) (lines : Vec (List ℕ) Global) (stop : LineStop) (new : RecordedHalls) → MakesNumberedHalls header items (record { halls = old; lines = lines }) → new ≡ old
    → StaysAtFault (MakesNumberedHalls header items) (Err stop) (record { halls = new; lines = lines })
kept_too header items old lines (stops.Fault fault) new made same = subst (λ (halls : RecordedHalls). MakesNumberedHalls header items (record { halls = halls; lines = lines })) (sym same) made
kept_too header items old lines stops.Memory new made same = tt

-- ---- which row stands on a line

-- the item stands at that place, with that line
record IsPlaced (first : ℕ) (items : List HallRow) (item : HallRow) (line : ℕ) : Type 0 where
  place : ℕ
  counted : line ≡ first + place
  at : slice_get items place ≡ Some item

one_later : (first : ℕ) (other : HallRow) (items : List HallRow) (item : HallRow) (line : ℕ) → IsPlaced (first + 1) items item line → IsPlaced first (other ∷ items) item line
one_later first other items item line h = record { place = suc h.place; counted = omega (arith, h.counted); at = h.at }

-- an item before others, which is of the hall if the test says so
placed_step : (b : Bool) (hall first : ℕ) (item : HallRow) (items : List HallRow) (rows : List HallRow) (numbered : List (ℕ × HallRow)) → (b ≡ true → item.hall ≡ hall)
    → ((k : ℕ) (row : Row) (line : ℕ) → slice_get (map row_in_hall rows) k ≡ Some row → slice_get (map line_in numbered) k ≡ Some line → IsPlaced (first + 1) items (record { hall = hall; row = row }) line)
    → (k : ℕ) (row : Row) (line : ℕ) → slice_get (map row_in_hall (cond b (item ∷ rows) rows)) k ≡ Some row → slice_get (map line_in (cond b ((first, item) ∷ numbered) numbered)) k ≡ Some line → IsPlaced first (item ∷ items) (record { hall = hall; row = row }) line
placed_step false hall first item items rows numbered own later k row line e f = one_later first item items (record { hall = hall; row = row }) line (later k row line e f)
placed_step true hall first item items rows numbered own later zero row line e f =
    let same : item.row ≡ row = inside_some e in
    let counted : first ≡ line = inside_some f in
    let is : item ≡ record { hall = hall; row = row } = ap₂ (λ (h : ℕ) (r : Row). record { hall = h; row = r }) (own refl) same in
    record { place = 0; counted = omega (arith, counted); at = ap Some is }
placed_step true hall first item items rows numbered own later (suc k) row line e f = one_later first item items (record { hall = hall; row = row }) line (later k row line e f)

placed : (hall first : ℕ) (items : List HallRow) (k : ℕ) (row : Row) (line : ℕ) → slice_get (rows_of hall items) k ≡ Some row → slice_get (lines_from hall first items) k ≡ Some line → IsPlaced first items (record { hall = hall; row = row }) line
placed hall first [] k row line e f = absurd (cc)
placed hall first (item ∷ items) k row line e f =
    placed_step (nat_eq item.hall hall) hall first item items (filter (λ (i : HallRow). nat_eq i.hall hall) items) (filter (λ (numbered : ℕ × HallRow). nat_eq numbered.1.hall hall) (enumerate_from (first + 1) items)) (eqb-true item.hall hall) (placed hall (first + 1) items) k row line e f

length_step : (b : Bool) (first : ℕ) (item : HallRow) (rows : List HallRow) (numbered : List (ℕ × HallRow)) → length (map line_in numbered) ≡ length (map row_in_hall rows) → length (map line_in (cond b ((first, item) ∷ numbered) numbered)) ≡ length (map row_in_hall (cond b (item ∷ rows) rows))
length_step true first item rows numbered e = ap suc e
length_step false first item rows numbered e = e

as_many : (hall first : ℕ) (items : List HallRow) → length (lines_from hall first items) ≡ length (rows_of hall items)
as_many hall first [] = refl
as_many hall first (item ∷ items) =
    length_step (nat_eq item.hall hall) first item (filter (λ (i : HallRow). nat_eq i.hall hall) items) (filter (λ (numbered : ℕ × HallRow). nat_eq numbered.1.hall hall) (enumerate_from (first + 1) items)) (as_many hall (first + 1) items)

stands_on : (items : List HallRow) (item : HallRow) (line : ℕ) → IsPlaced 2 items item line → StandsOn items line item
stands_on items item line h =
    let e : h.place ≡ line - 2 = omega (arith, h.counted) in
    record { below = omega (arith, h.counted); at = subst (λ (k : ℕ). slice_get items k ≡ Some item) e h.at }

lines_of_rows : (items : List HallRow) (hall : ℕ) → AreLinesOfRows items hall (rows_of hall items) (lines_of hall items)
lines_of_rows items hall = record {
  count = as_many hall 2 items;
  each = λ k row line e f. stands_on items (record { hall = hall; row = row }) line (placed hall 2 items k row line e f);
}

pub kept_lines : (header : FileHeader) (items : List HallRow) (numbered : NumberedHistories) → MakesNumbered header items numbered → (hall : ℕ) (history : Recorded) (lines : List ℕ) → slice_get numbered.histories.halls hall ≡ Some history → slice_get numbered.lines.items hall ≡ Some lines
    → AreLinesOfRows items hall history.rows lines
kept_lines header items numbered h hall history lines there at =
    let rows : rows_of hall items ≡ history.rows = sym (ap (λ (r : Recorded). r.rows) (h.made.each hall history there)) in
    let own : lines_of hall items ≡ lines = sym (h.lines.each hall lines at) in
    subst (λ (rs : List Row). AreLinesOfRows items hall rs lines) rows (subst (λ (ls : List ℕ). AreLinesOfRows items hall (rows_of hall items) ls) own (lines_of_rows items hall))

-- ---- the line of the bytes

absent : (items : List HallRow) (k : ℕ) (item : HallRow) → items ≡ [] → slice_get items k ≡ Some item → ⊥
absent [] k item none e = cc
absent (other ∷ items) k item none e = cc

-- the line at the place after an item's place says the item
spelled_at : (lines : List (List ℕ)) (header : FileHeader) (items : List HallRow) (k : ℕ) (item : HallRow) → AreSpelled histories_format lines header items → slice_get items k ≡ Some item → IsSomeAnd (slice_get lines (suc k)) (λ text. IsLineOf histories_format header text item)
spelled_at [] header items k item h e = absurd (absent items k item h e)
spelled_at (first ∷ lines) header items k item h e =
    let P : Option HallRow → Type 0 = λ o. MatchOption o (Unit {0}) (λ said. IsSomeAnd (slice_get lines k) (λ text. IsLineOf histories_format header text said)) in
    subst P e (AllZip-right (IsLineOf histories_format header) lines items h.1 k)

pub said_on_line : (bytes : List ℕ) (numbered : NumberedHistories) (file : Reads histories_format MakesNumbered bytes numbered) (line : ℕ) (item : HallRow) → StandsOn file.items line item → LineSaysItem file line item
said_on_line bytes numbered file line item h =
    let lines = last_lines file.lines file.rest in
    let found = spelled_at lines file.header file.items (line - 2) item file.read.spelled h.at in
    let e : suc (line - 2) ≡ line - 1 = omega (arith, h.below) in
    subst (λ (k : ℕ). IsSomeAnd (slice_get lines k) (λ text. IsLineOf histories_format file.header text item)) e found

-- ---- version 1

numbers_step : (b : Bool) (first count : ℕ) (item : HallRow) (numbered : List (ℕ × HallRow)) → b ≡ true → map line_in numbered ≡ range_with_len (first + 1) count → map line_in (cond b ((first, item) ∷ numbered) numbered) ≡ range_with_len first (suc count)
numbers_step true first count item numbered own later = ap (λ (ls : List ℕ). first ∷ ls) later
numbers_step false first count item numbered own later = absurd (cc)

numbers : (first : ℕ) (items : List HallRow) → ((k : ℕ) (item : HallRow) → slice_get items k ≡ Some item → item.hall ≡ 0) → lines_from 0 first items ≡ range_with_len first (length items)
numbers first [] alone = refl
numbers first (item ∷ items) alone =
    numbers_step (nat_eq item.hall 0) first (length items) item (filter (λ (numbered : ℕ × HallRow). nat_eq numbered.1.hall 0) (enumerate_from (first + 1) items)) (eq-eqb item.hall 0 (alone 0 item refl)) (numbers (first + 1) items (λ k other e. alone (suc k) other e))

pub one_after_another : (items : List HallRow) → AreHistories Version1 items → lines_of 0 items ≡ range_with_len 2 (length items)
one_after_another items h = numbers 2 items (λ k item e. let below = (h.placed k item e).below in omega (arith, below))
