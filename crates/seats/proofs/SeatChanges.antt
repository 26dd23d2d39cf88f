-- Seats after a call.
use Rattle.std.proofs.Common.{◌≡◌, ◌≢◌, ◌<◌, ◌≤◌, ◌+◌, ◌⊎◌, ℕ, zero, suc, Bool, true, false, cond, true≢false, List, [], ◌∷◌, ◌++◌, Some, None, length, length-set, slice_get, slice_set, unwrap_or, refl, sym, ap, ◌∙◌, subst, inl, inr, append-nil, arith}
use Rattle.std.specs.Prelude.{◌==◌}
use Rattle.std.proofs.lemmas.Bool.Decides.{nat_tests}
use Rattle.std.proofs.lemmas.List.Elements.{filter-append}
use Rattle.std.proofs.lemmas.Option.{same_Some}
use Rattle.tag.proofs.Options.{none_some}
use Rattle.tag.proofs.Lists.{push_cases, set_cases}
use Rattle.tag.specs.declared.actions.Action.{Action}
use Rattle.tag.specs.declared.actions.Returned.{Returned}
use Rattle.tag.specs.declared.numbers.OpId.{OpId}
use Rattle.recorder.specs.declared.part.Response.{Response}
use Rattle.recorder.specs.declared.row.Row.TheVariants.{Respond}
use Rattle.world_steps.specs.Lasting.{Grows}
use Rattle.hall_lock.specs.Turns.{AreRecorded, HasNoCall, ClientView}
use Rattle.recorder.specs.declared.log_entry.Entry.{Entry}
use Rattle.seats.specs.declared.errors.CallError.{CallError}
use Rattle.seats.specs.declared.errors.CallError.TheVariants as fault
use Rattle.seats.specs.declared.seat.Answer.{Answer}
use Rattle.seats.specs.Answers.{FailsWith, IsAnswered}
use Rattle.seats.specs.Calls.{BeginsCall, EndsCall, KeepsLog}
use Rattle.seats.specs.Receipts.{Receipt}
use Rattle.recorder.specs.Logs.{AreAnswered, IsLog, of_hall}
use Rattle.seats.specs.Seats.{AreFresh, DidNotBegin, EndsWith, HasMet, HaveGrown, StandsBelow, IsOwnPass, IsSeat, LeavesPending, Seat, greater, seen_in, value_of}
use Rattle.seats.proofs.Answering.{HasBegun, HasEnded, begins, ends, still_begun}
use Rattle.seats.proofs.Reasons.{MayRefuse, MayStay}
use Rattle.hall_lock.proofs.Rows.{grown_not}
use Rattle.seats.proofs.Logs.{begun_entry, ended_entry}

-- ---- a list in which one element was set

-- ---- the entries of a hall

same_number : (n : ℕ) → (n == n) ≡ true
same_number n = grind (arith, nat_tests)

other_number : (m n : ℕ) → m ≢ n → (m == n) ≡ false
other_number m n apart = grind (arith, nat_tests)

pub hall_more : (hall : ℕ) (log : List Entry) (entry : Entry) → entry.hall ≡ hall → of_hall hall (log ++ entry ∷ []) ≡ of_hall hall log ++ entry ∷ []
hall_more hall log entry is =
    filter-append (λ (e : Entry). e.hall == hall) log (entry ∷ []) ∙ ap (λ b. of_hall hall log ++ cond b (entry ∷ []) []) (ap (λ n. n == hall) is ∙ same_number hall)

pub hall_same : (hall other : ℕ) (log : List Entry) (entry : Entry) → entry.hall ≡ hall → other ≢ hall → of_hall other (log ++ entry ∷ []) ≡ of_hall other log
hall_same hall other log entry is apart =
    filter-append (λ (e : Entry). e.hall == other) log (entry ∷ []) ∙ ap (λ b. of_hall other log ++ cond b (entry ∷ []) []) (ap (λ n. n == other) is ∙ other_number hall other (λ same. apart (sym same))) ∙ append-nil (of_hall other log)

from_test : (x : Entry) (xs kept : List Entry) (b : Bool) → ((k : ℕ) (e : Entry) → slice_get kept k ≡ Some e → (j : ℕ) × (slice_get xs j ≡ Some e)) → (k : ℕ) (e : Entry) → slice_get (cond b (x ∷ kept) kept) k ≡ Some e → (j : ℕ) × (slice_get (x ∷ xs) j ≡ Some e)
from_test x xs kept true rest zero e at = (0, at)
from_test x xs kept true rest (suc k) e at = let f = rest k e at in (suc f.0, f.1)
from_test x xs kept false rest k e at = let f = rest k e at in (suc f.0, f.1)

from_hall : (hall : ℕ) (log : List Entry) (k : ℕ) (e : Entry) → slice_get (of_hall hall log) k ≡ Some e → (j : ℕ) × (slice_get log j ≡ Some e)
from_hall hall [] k e at = none_some at
from_hall hall (x ∷ xs) k e at = from_test x xs (of_hall hall xs) (x.hall == hall) (λ n f is. from_hall hall xs n f is) k e at

pub hall_answered : (hall : ℕ) (log : List Entry) → AreAnswered log → AreAnswered (of_hall hall log)
hall_answered hall log answered k entry at = let there = from_hall hall log k entry at in answered there.0 entry there.1

-- ---- a seat after a call

-- the log of one hall has an entry more, the pass of that hall is another, and its place is higher
abbrev pub with_entry : Seat → ℕ → Entry → ClientView → ℕ → Bool → Seat
with_entry s hall entry after place spent = record s { is_spent = spent; log = s.log ++ entry ∷ []; passes = slice_set s.passes hall after; seen = slice_set s.seen hall place }

own_after : (s : Seat) (hall : ℕ) (entry : Entry) (after : ClientView) (place : ℕ) (spent : Bool) → IsSeat s → entry.hall ≡ hall → after.client ≡ s.client → AreRecorded after.rows → IsLog after.rows s.client (of_hall hall s.log ++ entry ∷ [])
    → (k : ℕ) (pass : ClientView) → slice_get (slice_set s.passes hall after) k ≡ Some pass → IsOwnPass (with_entry s hall entry after place spent) k pass
own_after s hall entry after place spent is in_hall client recorded log k pass at = elim (set_cases s.passes hall after k pass at) [
  | inl here ↦
      let whole : IsLog after.rows s.client (of_hall hall (s.log ++ entry ∷ [])) = subst (IsLog after.rows s.client) (sym (hall_more hall s.log entry in_hall)) log in
      subst (λ (y : ℕ × ClientView). IsOwnPass (with_entry s hall entry after place spent) y.0 y.1) (λ i. (sym here.0 i, here.1 i)) (record { client = client; recorded = recorded; log = whole })
  | inr other ↦
      let old = is.own k pass other.1 in
      record { client = old.client; recorded = old.recorded; log = subst (IsLog pass.rows s.client) (sym (hall_same hall k s.log entry in_hall other.0)) old.log }
]

below_after : (s : Seat) (hall : ℕ) (entry : Entry) (old place : ℕ) → IsSeat s → entry.hall ≡ hall → slice_get s.seen hall ≡ Some old → old ≤ place → StandsBelow place entry
    → (k now i : ℕ) (e : Entry) → slice_get (slice_set s.seen hall place) k ≡ Some now → slice_get (of_hall k (s.log ++ entry ∷ [])) i ≡ Some e → StandsBelow now e
below_after s hall entry old place is in_hall there higher below k now i e at e_at = elim (set_cases s.seen hall place k now at) [
  | inl here ↦
      let at_hall : slice_get (of_hall hall s.log ++ entry ∷ []) i ≡ Some e = subst (λ l. slice_get l i ≡ Some e) (hall_more hall s.log entry in_hall) (subst (λ h. slice_get (of_hall h (s.log ++ entry ∷ [])) i ≡ Some e) here.0 e_at) in
      elim (push_cases (of_hall hall s.log) entry i e at_hall) [
        | inl before ↦
            let was = is.below hall old i e there before in
            let now_is : place ≡ now = here.1 in
            record { invoked = (let a : e.invoked < old = was.invoked in omega arith); answered = λ response r. (let a : response.place < old = was.answered response r in omega arith) }
        | inr new ↦ subst (λ (y : ℕ × Entry). StandsBelow y.0 y.1) (λ j. (here.1 j, new.1 j)) below
      ]
  | inr other ↦ is.below k now i e other.1 (subst (λ l. slice_get l i ≡ Some e) (hall_same hall k s.log entry in_hall other.0) e_at)
]

pub kept_seat : (s : Seat) (hall : ℕ) (old new : ClientView) → IsSeat s → slice_get s.passes hall ≡ Some old → KeepsLog old new → IsSeat (record s { passes = slice_set s.passes hall new })
kept_seat s hall old new is there kept = record {
  halls = is.halls ∙ sym (length-set s.passes hall new);
  own = λ k pass at. elim (set_cases s.passes hall new k pass at) [
    | inl here ↦
        let was = is.own hall old there in
        let client : new.client ≡ s.client = kept.client ∙ was.client in
        let log : IsLog new.rows s.client (of_hall hall s.log) = subst (λ c. IsLog new.rows c (of_hall hall s.log)) client (kept.log (of_hall hall s.log) (subst (λ c. IsLog old.rows c (of_hall hall s.log)) (sym was.client) was.log)) in
        subst (λ (y : ℕ × ClientView). IsOwnPass (record s { passes = slice_set s.passes hall new }) y.0 y.1) (λ i. (sym here.0 i, here.1 i)) (record { client = client; recorded = kept.recorded was.recorded; log = log })
    | inr other ↦ let was = is.own k pass other.1 in record { client = was.client; recorded = was.recorded; log = was.log }
  ];
  answered = is.answered;
  below = is.below;
}

pub pending_seat : (s : Seat) (hall : ℕ) (old new : ClientView) (entry : Entry) (place : ℕ) → IsSeat s → slice_get s.passes hall ≡ Some old → slice_get s.seen hall ≡ Some place → place ≤ entry.invoked → entry.hall ≡ hall → entry.response ≡ None
    → HasBegun old new (of_hall hall s.log) entry → IsSeat (with_entry s hall entry new (entry.invoked + 1) true)
pending_seat s hall old new entry place is there seen later in_hall pending begun =
    let was = is.own hall old there in
    record {
      halls = length-set s.seen hall (entry.invoked + 1) ∙ is.halls ∙ sym (length-set s.passes hall new);
      own = λ k pass at. own_after s hall entry new (entry.invoked + 1) true is in_hall (begun.client ∙ was.client) begun.recorded (subst (λ c. IsLog new.rows c (of_hall hall s.log ++ entry ∷ [])) was.client begun.log) k pass at;
      answered = λ (no : true ≡ false). absurd (true≢false no);
      below = λ k now i e at e_at. below_after s hall entry place (entry.invoked + 1) is in_hall seen (omega arith) (record { invoked = omega arith; answered = λ response r. none_some (sym pending ∙ r) }) k now i e at e_at;
    }

pub answered_seat : (s : Seat) (hall : ℕ) (old new : ClientView) (entry : Entry) (op : OpId) (returned : Returned) (at_place place : ℕ) → IsSeat s → s.is_spent ≡ false → slice_get s.passes hall ≡ Some old → slice_get s.seen hall ≡ Some place
    → place ≤ entry.invoked → entry.hall ≡ hall → HasEnded old new (of_hall hall s.log) entry op returned at_place → IsSeat (with_entry s hall (ended_entry entry at_place returned) new (at_place + 1) false)
answered_seat s hall old new entry op returned at_place place is unspent there seen later in_hall ended =
    let was = is.own hall old there in
    let ordered : entry.invoked < at_place = ended.ordered in
    let done = ended_entry entry at_place returned in
    record {
      halls = length-set s.seen hall (at_place + 1) ∙ is.halls ∙ sym (length-set s.passes hall new);
      own = λ k pass at. own_after s hall done new (at_place + 1) false is in_hall (ended.client ∙ was.client) ended.recorded (subst (λ c. IsLog new.rows c (of_hall hall s.log ++ done ∷ [])) was.client ended.log) k pass at;
      answered = λ _ k e at. elim (push_cases s.log done k e at) [
        | inl old_one ↦ is.answered unspent k e old_one
        | inr new_one ↦ (record { place = at_place; returned = returned }, ap (λ (x : Entry). x.response) (sym new_one.1))
      ];
      below = λ k now i e at e_at. below_after s hall done place (at_place + 1) is in_hall seen (omega arith)
          (record { invoked = omega arith; answered = λ response r. (let same : ◌≡◌ {A = Response} (record { place = at_place; returned = returned }) response = same_Some _ _ r in let here : at_place ≡ response.place = ap (λ (x : Response). x.place) same in omega arith) }) k now i e at e_at;
    }

-- ---- a call that didn't begin

grown_none : (passes : List ClientView) → HaveGrown passes passes
grown_none passes hall before at = (before, at, grown_not before.rows)

grown_one : (passes : List ClientView) (hall : ℕ) (old new : ClientView) → slice_get passes hall ≡ Some old → Grows old.rows new.rows → HaveGrown passes (slice_set passes hall new)
grown_one [] hall old new there grown k before at = none_some at
grown_one (x ∷ xs) zero old new there grown zero before at = (new, refl, subst (λ (s : ClientView). Grows s.rows new.rows) (same_Some old before (sym there ∙ at)) grown)
grown_one (x ∷ xs) zero old new there grown (suc k) before at = (before, at, grown_not before.rows)
grown_one (x ∷ xs) (suc hall) old new there grown zero before at = (before, at, grown_not before.rows)
grown_one (x ∷ xs) (suc hall) old new there grown (suc k) before at = grown_one xs hall old new there grown k before at

pub unbegun : (s : Seat) → DidNotBegin s s
unbegun s = record { store = refl; client = refl; is_spent = refl; log = refl; seen = refl; grown = grown_none s.passes }

-- the log is the same list
pub unbegun_log : (s : Seat) (log : List Entry) → log ≡ s.log → DidNotBegin s (record { store = s.store; client = s.client; is_spent = s.is_spent; log = log; passes = s.passes; seen = s.seen })
unbegun_log s log same = record { store = refl; client = refl; is_spent = refl; log = same; seen = refl; grown = grown_none s.passes }

-- the pass of one hall saw more
pub unbegun_pass : (s : Seat) (log : List Entry) (at : ℕ) (old new : ClientView) → log ≡ s.log → slice_get s.passes at ≡ Some old → KeepsLog old new
    → DidNotBegin s (record { store = s.store; client = s.client; is_spent = s.is_spent; log = log; passes = slice_set s.passes at new; seen = s.seen })
unbegun_pass s log at old new same there kept = record { store = refl; client = refl; is_spent = refl; log = same; seen = refl; grown = grown_one s.passes at old new there kept.grown }

-- ---- what an error says

pub fails_unbegun : (error : CallError) (old : Seat) (hall : ℕ) (key : List ℕ) (action : Action) (new : Seat) → MayRefuse error → DidNotBegin old new → FailsWith error old hall key action new
fails_unbegun fault.Unavailable old hall key action new may is = absurd may
fails_unbegun fault.SeatSpent old hall key action new may is = absurd may
fails_unbegun fault.Foreign old hall key action new may is = is
fails_unbegun fault.Full old hall key action new may is = inl is
fails_unbegun fault.Memory old hall key action new may is = inl is

pub fails_pending : (error : CallError) (old : Seat) (hall : ℕ) (key : List ℕ) (action : Action) (new : Seat) → MayStay error → ((entry : Entry) × LeavesPending old hall key action entry new) → FailsWith error old hall key action new
fails_pending fault.Unavailable old hall key action new may is = is
fails_pending fault.SeatSpent old hall key action new may is = absurd may
fails_pending fault.Foreign old hall key action new may is = absurd may
fails_pending fault.Full old hall key action new may is = inr is
fails_pending fault.Memory old hall key action new may is = inr is

-- ---- a call of a seat

module _ (s : Seat) (at hall : ℕ) (old new : ClientView) (key kept_key : List ℕ) (action kept_action : Action) (op : OpId) (place seen : ℕ)
    (is : IsSeat s) (there : slice_get s.passes at ≡ Some old) (saw : slice_get s.seen at ≡ Some seen) (same : at ≡ hall) (key_is : kept_key ≡ key) (action_is : kept_action ≡ action) (later : seen ≤ place) where
  abbrev entry_of : Entry
  entry_of = begun_entry hall op kept_key kept_action place

  own_log : IsLog old.rows old.client (of_hall at s.log)
  own_log = let was = is.own at old there in subst (λ c. IsLog old.rows c (of_hall at s.log)) (sym was.client) was.log

  begun_by : (mid : ClientView) → BeginsCall old key action op place mid → HasBegun old mid (of_hall at s.log) entry_of
  begun_by mid begins_call =
      subst (λ (y : List ℕ × Action). HasBegun old mid (of_hall at s.log) (begun_entry hall op y.0 y.1 place)) (λ i. (sym key_is i, sym action_is i))
      (begins hall old mid key action op place (of_hall at s.log) own_log begins_call)

  seen_before : seen_in s hall ≤ place
  seen_before = subst (λ n. n ≤ place) (sym (ap (λ o. unwrap_or o 0) (ap (λ n. slice_get s.seen n) (sym same) ∙ saw))) later

  there_by : slice_get s.passes hall ≡ Some old
  there_by = ap (λ n. slice_get s.passes n) (sym same) ∙ there

  -- it began, and isn't answered
  module _ (log : List Entry) (logged : log ≡ s.log ++ entry_of ∷ []) (mid : ClientView) (begins_call : BeginsCall old key action op place mid) (kept : KeepsLog mid new) where
    has_begun : HasBegun old new (of_hall at s.log) entry_of
    has_begun = still_begun old mid new (of_hall at s.log) entry_of (begun_by mid begins_call) kept

    pub pending_is : IsSeat (record { store = s.store; client = s.client; is_spent = true; log = log; passes = slice_set s.passes at new; seen = slice_set s.seen at (place + 1) })
    pending_is = subst (λ l. IsSeat (record { store = s.store; client = s.client; is_spent = true; log = l; passes = slice_set s.passes at new; seen = slice_set s.seen at (place + 1) })) (sym logged)
        (pending_seat s at old new entry_of seen is there saw later (sym same) refl has_begun)

    pub leaves_pending : (error : CallError) → MayStay error → new.is_stopped ≡ true → FailsWith error s hall key action (record { store = s.store; client = s.client; is_spent = true; log = log; passes = slice_set s.passes at new; seen = slice_set s.seen at (place + 1) })
    leaves_pending error may stopped = fails_pending error s hall key action _ may (
      entry_of,
      record {
        before = old;
        after = new;
        there = there_by;
        is = λ i. record { store = s.store; client = s.client; is_spent = true; log = logged i; passes = slice_set s.passes (same i) new; seen = slice_set s.seen (same i) (place + 1) };
        of = record { hall_is = refl; key_is = key_is; action_is = action_is; later = seen_before };
        pending = refl;
        grown = has_begun.grown;
        stopped = stopped;
      },
    )

  -- it was answered
  module _ (number : OpId) (returned : Returned) (end_place : ℕ) (log : List Entry) (logged : log ≡ s.log ++ ended_entry entry_of end_place returned ∷ []) (unspent : s.is_spent ≡ false)
      (mid : ClientView) (begins_call : BeginsCall old key action op place mid) (ends_call : EndsCall mid number returned end_place new) where
    has_ended : HasEnded old new (of_hall at s.log) entry_of number returned end_place
    has_ended = ends old mid new (of_hall at s.log) entry_of number returned end_place (begun_by mid begins_call) refl (hall_answered at s.log (is.answered unspent)) ends_call

    pub answered_is : IsSeat (record { store = s.store; client = s.client; is_spent = s.is_spent; log = log; passes = slice_set s.passes at new; seen = slice_set s.seen at (end_place + 1) })
    answered_is = subst (λ (y : Bool × List Entry). IsSeat (record { store = s.store; client = s.client; is_spent = y.0; log = y.1; passes = slice_set s.passes at new; seen = slice_set s.seen at (end_place + 1) })) (λ i. (sym unspent i, sym logged i))
        (answered_seat s at old new entry_of number returned end_place seen is unspent there saw later (sym same) has_ended)

    pub answers : (answer : Answer) → answer.value ≡ value_of returned → answer.receipt ≡ record { store = s.store; hall = hall; call = op; place = end_place }
        → IsAnswered s hall key action answer (record { store = s.store; client = s.client; is_spent = s.is_spent; log = log; passes = slice_set s.passes at new; seen = slice_set s.seen at (end_place + 1) })
    answers answer value receipt = record {
      entry = ended_entry entry_of end_place returned;
      response = record { place = end_place; returned = returned };
      calls = record {
        before = old;
        after = new;
        there = there_by;
        is = λ i. record { store = s.store; client = s.client; is_spent = s.is_spent; log = logged i; passes = slice_set s.passes (same i) new; seen = slice_set s.seen (same i) (end_place + 1) };
        of = record { hall_is = refl; key_is = key_is; action_is = action_is; later = seen_before };
        answered = refl;
        ordered = has_ended.ordered;
        grown = has_ended.grown;
        last = subst (λ o. EndsWith new.rows (Respond o returned)) (sym has_ended.number) has_ended.last;
      };
      tells = record { value = value; receipt = receipt };
    }

-- the seat whose log is that list
pub same_log : (s : Seat) (log : List Entry) (passes : List ClientView) → log ≡ s.log → IsSeat (record s { passes = passes }) → IsSeat (record { store = s.store; client = s.client; is_spent = s.is_spent; log = log; passes = passes; seen = s.seen })
same_log s log passes same is = subst (λ l. IsSeat (record { store = s.store; client = s.client; is_spent = s.is_spent; log = l; passes = passes; seen = s.seen })) (sym same) is

-- ---- a new seat

pub new_log : (client : ℕ) (pass : ClientView) → HasNoCall client pass.rows → IsLog pass.rows client []
new_log client pass none = record {
  each = λ k entry at. none_some at;
  all = λ place op key action there. absurd (none place op key action there);
  ordered = λ i j a b lt x y. none_some x;
}

pub new_seat : (store client : ℕ) (passes : List ClientView) (seen : List ℕ) (log : List Entry) → log ≡ [] → length seen ≡ length passes → AreFresh client passes
    → IsSeat (record { store = store; client = client; is_spent = false; log = log; passes = passes; seen = seen })
new_seat store client passes seen log none halls fresh = subst (λ l. IsSeat (record { store = store; client = client; is_spent = false; log = l; passes = passes; seen = seen })) (sym none) (record {
  halls = halls;
  own = λ hall pass at. let own = fresh hall pass at in record { client = own.client; recorded = own.recorded; log = new_log client pass own.unused };
  answered = λ _ k entry at. none_some at;
  below = λ hall place k entry at there. none_some there;
})

-- ---- a seat that met a receipt

pub greater_high : (a b : ℕ) → a ≤ greater a b
greater_high a b = grind (arith, nat_tests)

pub met_seat : (s : Seat) (hall old new : ℕ) → IsSeat s → slice_get s.seen hall ≡ Some old → old ≤ new → IsSeat (record s { seen = slice_set s.seen hall new })
met_seat s hall old new is there higher = record {
  halls = length-set s.seen hall new ∙ is.halls;
  own = λ k pass at. let was = is.own k pass at in record { client = was.client; recorded = was.recorded; log = was.log };
  answered = is.answered;
  below = λ k place i entry at entry_at. elim (set_cases s.seen hall new k place at) [
    | inl here ↦
        let was = is.below hall old i entry there (subst (λ h. slice_get (of_hall h s.log) i ≡ Some entry) here.0 entry_at) in
        let now_is : new ≡ place = here.1 in
        record { invoked = (let a : entry.invoked < old = was.invoked in omega arith); answered = λ response r. (let a : response.place < old = was.answered response r in omega arith) }
    | inr other ↦ is.below k place i entry other.1 entry_at
  ];
}

pub has_met : (s : Seat) (receipt : Receipt) (hall old new : ℕ) → receipt.store ≡ s.store → hall ≡ receipt.hall → hall < length s.seen → slice_get s.seen hall ≡ Some old → new ≡ greater old (receipt.place + 1) → HasMet s receipt (record s { seen = slice_set s.seen hall new })
has_met s receipt hall old new store same lt there is = record {
  store = store;
  there = subst (λ n. n < length s.seen) same lt;
  is =
      let saw : old ≡ seen_in s receipt.hall = sym (ap (λ o. unwrap_or o 0) (ap (λ n. slice_get s.seen n) (sym same) ∙ there)) in
      let place : new ≡ greater (seen_in s receipt.hall) (receipt.place + 1) = is ∙ ap (λ n. greater n (receipt.place + 1)) saw in
      λ i. record s { seen = slice_set s.seen (same i) (place i) };
}
