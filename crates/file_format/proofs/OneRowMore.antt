-- The histories of a file's halls, with a row more in one of them.
use Rattle.std.proofs.Common.{ℕ, suc, ◌≡◌, ◌<◌, ◌≤◌, ◌+◌, ◌-◌, inl, inr, List, [], ◌∷◌, ◌++◌}
use Rattle.std.proofs.Common.{Option, Some, None, Result, Ok, Err, length, get_or, set, refl, sym}
use Rattle.std.proofs.Common.{ap, ◌∙◌, subst, arith}
use Rattle.std.specs.Prelude.{OnErr}
use Rattle.std.specs.List.{slice_get}
use Rattle.std.proofs.lemmas.List.{length-set}
use Rattle.std.proofs.lemmas.List.Elements.{All-push}
use Rattle.std.proofs.lemmas.List.Sums.{sum_by-cons, sum_by-set, get_or-le-sum_by}
use Rattle.std.proofs.lemmas.Option.{slice_get_within, slice_get_read, get_or_from_slice_get}
use Rattle.tag.proofs.Lists.{push_cases, set_same, slice_get-set}
use Rattle.quorum.specs.Quorums.{Quorums}
use Rattle.recorder.specs.declared.row.Row.{Row}
use Rattle.recorder.specs.Answers.{with_row}
use Rattle.recorder.specs.Halls.{RecordedHalls, AreHalls, IsHallOf, FallsTo, hall_calls}
use Rattle.recorder.specs.Histories.{Recorded, IsWellFormed, call_count}
use Rattle.counted_devices.specs.declared.read_fault.Stop.TheVariants as stop
use Rattle.file_format.specs.declared.file_header.FileHeader.{FileHeader}
use Rattle.file_format.specs.declared.file_header.FileHeader.TheVariants.{Version1, Version2}
use Rattle.file_format.specs.declared.hall_histories.HallHistories.TheInside.{Inside}
use Rattle.file_format.specs.declared.hall_row.HallRow.{HallRow}
use Rattle.file_format.specs.Faults.{LineStop}
use Rattle.file_format.specs.FileHeaders.{halls_in, quorums_in}
use Rattle.file_format.specs.Formats.{Follows}
use Rattle.file_format.specs.HistoriesFormat.{MakesHistories, histories_format}
use Rattle.file_format.specs.HallStates.{AreHistoriesSoFar}
use Rattle.file_format.specs.Places.{IsOneTooMany, FollowsAfter, FollowsInHall}
use Rattle.file_format.proofs.RowsAcrossHalls.{begins, calls_more, few_more, IsNext, fits_more, makes_more, misplaced}

-- the calls of all halls, with one history in another's place
pub counted_set : (halls : List Recorded) (k : ℕ) (old new : Recorded) → slice_get halls k ≡ Some old
    → hall_calls (set halls k new) + call_count old.rows ≡ hall_calls halls + call_count new.rows
counted_set halls k old new e =
    let calls : Recorded → ℕ = λ history. call_count history.rows in
    let at : get_or halls k old ≡ old = get_or_from_slice_get halls k old old e in
    sym (ap (λ (h : Recorded). hall_calls (set halls k new) + call_count h.rows) at)
    ∙ sum_by-set calls halls k new old (slice_get_within halls k old e)

pub counted_more : (halls : List Recorded) (k : ℕ) (old : Recorded) (row : Row) → slice_get halls k ≡ Some old
    → hall_calls (set halls k (with_row old row)) ≡ hall_calls halls + begins row
counted_more halls k old row e = omega (arith, counted_set halls k old (with_row old row) e, calls_more old.rows row)

pub lawful_more : (halls : List Recorded) (quorums : Option Quorums) (k : ℕ) (old : Recorded) (row : Row)
    → AreHalls (record { halls = halls; quorums = quorums }) → slice_get halls k ≡ Some old → FallsTo (length halls) k row
    → (IsOneTooMany (hall_calls halls) row → ⊥) → AreHalls (record { halls = set halls k (with_row old row); quorums = quorums })
lawful_more halls quorums k old row h e falls room =
    let new = with_row old row in
    let same : length (set halls k new) ≡ length halls = length-set halls k new in
    record {
      count = record { least = omega (arith, same, h.count.least); most = omega (arith, same, h.count.most) };
      calls = omega (arith, counted_more halls k old row e, few_more (hall_calls halls) row h.calls room);
      keys = λ n history at.
          subst (λ (m : ℕ). IsHallOf m n history.rows) (sym same) (elim (slice_get-set halls k n new (slice_get_within halls k old e)) [
            | inl here ↦
                let is : Some new ≡ Some history = sym here.1 ∙ at in
                let own : IsHallOf (length halls) k new.rows = All-push (FallsTo (length halls) k) old.rows row (h.keys k old e) falls in
                subst (λ (r : Recorded). IsHallOf (length halls) n r.rows) (inside_some is)
                (subst (λ (m : ℕ). IsHallOf (length halls) m new.rows) (sym here.0) own)
            | inr apart ↦ h.keys n history (sym apart.1 ∙ at)
          ]);
      one = λ unknown. same ∙ h.one unknown;
    }
  where
    inside_some : {X : Type 0} {x y : X} → Some x ≡ Some y → x ≡ y
    inside_some e = cc

pub room_more : (halls : List Recorded) (k : ℕ) (old : Recorded) (row : Row) → slice_get halls k ≡ Some old
    → ((n : ℕ) (history : Recorded) → slice_get halls n ≡ Some history → history.limit ≡ 1000000) → (n : ℕ) (history : Recorded)
    → slice_get (set halls k (with_row old row)) n ≡ Some history → history.limit ≡ 1000000
room_more halls k old row e room n history at =
    elim (slice_get-set halls k n (with_row old row) (slice_get_within halls k old e)) [
      | inl here ↦
          let is : Some (with_row old row) ≡ Some history = sym here.1 ∙ at in
          let own : with_row old row ≡ history = cc in
          sym (ap (λ (r : Recorded). r.limit) own) ∙ room k old e
      | inr apart ↦ room n history (sym apart.1 ∙ at)
    ]

-- ---- what a row makes of it

abbrev pub After : ℕ → Recorded → Row → Result (Unit {0}) LineStop → Recorded → Type 0
After calls old row result new = FollowsAfter calls old row result new

kept : (calls : ℕ) (old : Recorded) (row : Row) (reason : LineStop) (new : Recorded) → After calls old row (Err reason) new → new ≡ old
kept calls old row (stop.Fault fault) new h = h.1
kept calls old row stop.Memory new h = h.1

-- either the row was added and there was room for it, or nothing changed
data Either (calls : ℕ) (old : Recorded) (row : Row) (new : Recorded) : Type 0 where
  added : new ≡ with_row old row → (IsOneTooMany calls row → ⊥) → Either calls old row new
  same : new ≡ old → Either calls old row new

either_of : (calls : ℕ) (old : Recorded) (row : Row) (result : Result (Unit {0}) LineStop) (new : Recorded)
    → After calls old row result new → Either calls old row new
either_of calls old row (Ok done) new h = added h.0 h.1
either_of calls old row (Err reason) new h = same (kept calls old row reason new h)

module _ (halls : List Recorded) (k : ℕ) (old new : Recorded) (row : Row) (result : Result (Unit {0}) LineStop) (here : slice_get halls k
    ≡ Some old) (after : After (hall_calls halls) old row result new) where
  pub grows : call_count old.rows ≤ call_count new.rows
  grows = at (either_of (hall_calls halls) old row result new after)
    where
      at : Either (hall_calls halls) old row new → call_count old.rows ≤ call_count new.rows
      at (added is room) = omega (arith, ap (λ (r : Recorded). call_count r.rows) is, calls_more old.rows row)
      at (same is) = omega (arith, ap (λ (r : Recorded). call_count r.rows) is)

  pub counted_after : hall_calls (set halls k new) ≡ hall_calls halls + (call_count new.rows - call_count old.rows)
  counted_after = omega (arith, counted_set halls k old new here, grows)

  pub lawful_after : (quorums : Option Quorums) → AreHalls (record { halls = halls; quorums = quorums }) → FallsTo (length halls) k row
      → AreHalls (record { halls = set halls k new; quorums = quorums })
  lawful_after quorums h falls = at (either_of (hall_calls halls) old row result new after)
    where
      at : Either (hall_calls halls) old row new → AreHalls (record { halls = set halls k new; quorums = quorums })
      at (added is room) = subst (λ (r : Recorded). AreHalls (record { halls = set halls k r; quorums = quorums })) (sym is)
          (lawful_more halls quorums k old row h here falls room)
      at (same is) = subst (λ (hs : List Recorded). AreHalls (record { halls = hs; quorums = quorums }))
          (sym (ap (λ (r : Recorded). set halls k r) is ∙ set_same halls k old here)) h

  pub room_after : ((n : ℕ) (history : Recorded) → slice_get halls n ≡ Some history → history.limit ≡ 1000000)
      → (n : ℕ) (history : Recorded) → slice_get (set halls k new) n ≡ Some history → history.limit ≡ 1000000
  room_after room = at (either_of (hall_calls halls) old row result new after)
    where
      at : Either (hall_calls halls) old row new → (n : ℕ) (history : Recorded) → slice_get (set halls k new) n ≡ Some history
          → history.limit ≡ 1000000
      at (added is r) = subst (λ (x : Recorded). (n : ℕ) (history : Recorded) → slice_get (set halls k x) n ≡ Some history
          → history.limit ≡ 1000000) (sym is) (room_more halls k old row here room)
      at (same is) = subst (λ (hs : List Recorded). (n : ℕ) (history : Recorded) → slice_get hs n ≡ Some history → history.limit
          ≡ 1000000) (sym (ap (λ (r : Recorded). set halls k r) is ∙ set_same halls k old here)) room

  pub unchanged_after : OnErr result (set halls k new ≡ halls)
  unchanged_after = at result after
    where
      at : (r : Result (Unit {0}) LineStop) → After (hall_calls halls) old row r new → OnErr r (set halls k new ≡ halls)
      at (Ok done) h = tt
      at (Err reason) h = ap (λ (r : Recorded). set halls k r) (kept (hall_calls halls) old row reason new h) ∙ set_same halls k old here

-- the hall has no more calls than all halls together
pub one_of_all : (halls : List Recorded) (k : ℕ) (old : Recorded) → slice_get halls k ≡ Some old → call_count old.rows ≤ hall_calls halls
one_of_all halls k old e =
    let calls : Recorded → ℕ = λ history. call_count history.rows in
    let at : get_or halls k old ≡ old = get_or_from_slice_get halls k old old e in
    omega (arith, ap calls at, get_or-le-sum_by calls halls k old (slice_get_within halls k old e))

-- a row that was given to the history of a hall, by the hall's number
pub record IsGiven (now : Inside) (hall : ℕ) (old new : Recorded) (row : Row) (result : Result (Unit {0}) LineStop) : Type 0 where
  pub below : hall < length now.halls.items
  pub here : slice_get now.halls.items hall ≡ Some old
  pub after : After (hall_calls now.halls.items) old row result new

pub given : (now : Inside) → AreHistoriesSoFar now → (hall : ℕ) (old new : Recorded) (row : Row) (result : Result (Unit {0}) LineStop)
    → hall < halls_in now.header → old ≡ get_or now.halls.items hall old → FollowsInHall now.calls old row result new
    → IsGiven now hall old new row result
given now so_far hall old new row result under read follows =
    let halls = now.halls.items in
    let below : hall < length halls = omega (arith, under, so_far.count) in
    let here : slice_get halls hall ≡ Some old = slice_get_read halls _ hall old refl below read in
    let few : call_count old.rows ≤ now.calls = omega (arith, one_of_all halls hall old here, so_far.counted) in
    let After-so_many : ℕ → Type 0 = λ calls. After calls old row result new in
    record {
      below = below;
      here = here;
      after = subst After-so_many so_far.counted (follows (so_far.room hall old here) few);
    }

-- and so of the items of a file
pub follows_after : (header : FileHeader) (items : List HallRow) (item : HallRow) (before behind : RecordedHalls) (old new : Recorded)
    (result : Result (Unit {0}) LineStop) → IsNext header items before item old → IsWellFormed new.rows
    → After (hall_calls before.halls) old item.row result new → behind.halls ≡ set before.halls item.hall new → behind.quorums
    ≡ before.quorums → Follows histories_format MakesHistories header items item result behind
follows_after header items item before behind old new (Ok done) next formed h halls quorums =
    let rows : new.rows ≡ old.rows ++ item.row ∷ [] = ap (λ (r : Recorded). r.rows) h.0 in (
      fits_more header items before item old next (subst IsWellFormed rows formed) h.1,
      makes_more header items before behind item old next (halls ∙ ap (λ (r : Recorded). set before.halls item.hall r) h.0) quorums,
    )
follows_after header items item before behind old new (Err (stop.Fault fault)) next formed h halls quorums =
    misplaced header items before item old fault next h.0
follows_after header items item before behind old new (Err stop.Memory) next formed h halls quorums = tt

-- ---- halls without a row

abbrev pub blank : Recorded
blank = record { rows = []; limit = 1000000 }

abbrev pub AreBlank : List Recorded → Type 0
AreBlank halls = (k : ℕ) (history : Recorded) → slice_get halls k ≡ Some history → history ≡ blank

pub none_blank : AreBlank []
none_blank = λ k history e. absurd (cc)

pub more_blank : (halls : List Recorded) (history : Recorded) → AreBlank halls → history ≡ blank → AreBlank (halls ++ history ∷ [])
more_blank halls history h is =
    λ k other e. elim (push_cases halls history k other e) [ inl old ↦ h k other old | inr new ↦ sym new.1 ∙ is ]

no_calls : (halls : List Recorded) → AreBlank halls → hall_calls halls ≡ 0
no_calls [] h = omega arith
no_calls (history ∷ halls) h =
    let first : call_count history.rows ≡ 0 = ap (λ (r : Recorded). call_count r.rows) (h 0 history refl) in
    omega (arith, sum_by-cons (λ (r : Recorded). call_count r.rows) history halls, first, no_calls halls (λ k other e. h (suc k) other e))

pub lawful_blank : (header : FileHeader) (halls : List Recorded) → AreBlank halls → length halls ≡ halls_in header → 1 ≤ length halls
    → length halls ≤ 64 → AreHalls (record { halls = halls; quorums = quorums_in header })
lawful_blank header halls h count least most = record {
  count = record { least = least; most = most };
  calls = omega (arith, no_calls halls h);
  keys = λ k history e. subst (λ (r : Recorded). IsHallOf (length halls) k r.rows) (sym (h k history e)) (λ n row lt. absurd (omega arith));
  one = λ unknown. count ∙ alone header unknown;
}
  where
    alone : (f : FileHeader) → quorums_in f ≡ None → halls_in f ≡ 1
    alone Version1 e = refl
    alone (Version2 n quorums) e = absurd (cc)

pub counted_blank : (halls : List Recorded) → AreBlank halls → 0 ≡ hall_calls halls
counted_blank halls h = sym (no_calls halls h)

pub made_blank : (header : FileHeader) (halls : List Recorded) → AreBlank halls → length halls ≡ halls_in header
    → MakesHistories header [] (record { halls = halls; quorums = quorums_in header })
made_blank header halls h count = record { count = count; each = λ hall history e. h hall history e; told = refl }
