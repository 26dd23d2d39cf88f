-- What a call leaves of its seat, by its outcome.
use Rattle.std.proofs.Common.{◌≡◌, ◌<◌, ◌+◌, ◌++◌, ◌∷◌, [], ℕ, List, length, refl, sym, ap, subst, slice_get, slice_set, get_or, Some, Ok, Err, inl, inr, true, false}
use Rattle.tag.proofs.Lists.{item_at}
use Rattle.tag.specs.declared.actions.Action.{Action}
use Rattle.hall_lock.specs.Turns.{ClientView}
use Rattle.hall_lock.specs.declared.client_pass.Begun.{Begun}
use Rattle.hall_lock.specs.declared.client_pass.Ended.{Ended}
use Rattle.recorder.specs.declared.log_entry.Entry.{Entry}
use Rattle.seats.specs.declared.errors.CallError.{CallError}
use Rattle.seats.specs.declared.errors.CallError.TheVariants as fault
use Rattle.seats.specs.declared.seat.Answer.{Answer}
use Rattle.seats.specs.Answers.{CallLeaves}
use Rattle.seats.specs.Answers.HasReason.{NoMemory}
use Rattle.seats.specs.Calls.{KeepsLog}
use Rattle.seats.specs.Outcomes.{CallIsAnswered, CallIsPending}
use Rattle.seats.specs.Reasons.{IsHeldBack}
use Rattle.seats.specs.Rounds.{Reach}
use Rattle.seats.specs.Seats.{IsSeat, Seat, value_of}
use Rattle.seats.proofs.Logs.{begun_entry, ended_entry}
use Rattle.seats.proofs.Reasons.{held_may, stalled_may}
use Rattle.seats.proofs.SeatChanges.{answers, fails_unbegun, leaves_pending, unbegun, unbegun_log, unbegun_pass}
use Rattle.seats.proofs.SeatReasons.{finds_fewer, held_back, stalled}
use Rattle.seats.proofs.Stale.{begun_has, ended_grown, held_stale}

-- the seat's pass of a hall, and the place below which it has seen all there
pub record Found (s : Seat) (at hall : ℕ) (pass : ClientView) (place : ℕ) : Type 0 where
  pub same : at ≡ hall
  pub there : slice_get s.passes at ≡ Some pass
  pub saw : slice_get s.seen at ≡ Some place

pub found : (s v : Seat) (at hall : ℕ) (pass : ClientView) (place : ℕ) → IsSeat s → s ≡ v → at ≡ hall → hall < length v.passes → pass ≡ get_or s.passes at pass → place ≡ get_or s.seen at place → Found s at hall pass place
found s v at hall pass place is view same below pass_is place_is =
    let lt : at < length s.passes = subst (λ (y : ℕ × Seat). y.0 < length y.1.passes) (λ i. (sym same i, sym view i)) below in
    record { same = same; there = item_at s.passes at pass lt pass_is; saw = item_at s.seen at place (subst (λ n. at < n) (sym is.halls) lt) place_is }

-- there was no memory for it
pub no_memory : {reach : Reach} (s : Seat) (hall : ℕ) (key : List ℕ) (action : Action) → CallLeaves reach s hall key action (Err fault.Memory) s
no_memory {reach} s hall key action = record { answered = tt; failed = inl (unbegun s); reason = NoMemory refl refl; stale = λ _. inr refl }

pub no_room : {reach : Reach} (s : Seat) (log : List Entry) (hall : ℕ) (key : List ℕ) (action : Action) → log ≡ s.log
    → CallLeaves reach s hall key action (Err fault.Memory) (record { store = s.store; client = s.client; is_spent = s.is_spent; log = log; passes = s.passes; seen = s.seen })
no_room {reach} s log hall key action same = record { answered = tt; failed = inl (unbegun_log s log same); reason = NoMemory refl refl; stale = λ _. inr refl }

-- it didn't begin
pub unbegun_leaves : {reach : Reach} (s : Seat) (log : List Entry) (at hall : ℕ) (old new : ClientView) (key : List ℕ) (action : Action) (seen : ℕ) (error : CallError)
    → log ≡ s.log → Found s at hall old seen → IsHeldBack old key action seen error new → KeepsLog old new
    → CallLeaves reach s hall key action (Err error) (record { store = s.store; client = s.client; is_spent = s.is_spent; log = log; passes = slice_set s.passes at new; seen = s.seen })
unbegun_leaves {reach} s log at hall old new key action seen error same f held kept = record {
  answered = tt;
  failed = fails_unbegun error s hall key action _ (held_may _ _ _ _ _ _ held) (unbegun_pass s log at old new same f.there kept);
  reason = held_back s log at hall old new key action seen error f.there f.saw f.same held;
  stale = λ fewer. inl (ap (λ (e : CallError). Err e) (held_stale old new key action seen error held (finds_fewer s.passes s.seen at hall old new seen f.there f.saw f.same fewer)));
}

-- it is pending
pub pending_leaves : {reach : Reach} (s : Seat) (log : List Entry) (at hall : ℕ) (old new : ClientView) (key kept_key : List ℕ) (action kept_action : Action) (begun : Begun) (seen : ℕ) (error : CallError)
    → IsSeat s → Found s at hall old seen → kept_key ≡ key → kept_action ≡ action → log ≡ s.log ++ begun_entry hall begun.op kept_key kept_action begun.place ∷ []
    → CallIsPending old key action seen reach begun error new
    → CallLeaves reach s hall key action (Err error) (record { store = s.store; client = s.client; is_spent = true; log = log; passes = slice_set s.passes at new; seen = slice_set s.seen at (begun.place + 1) })
pending_leaves {reach} s log at hall old new key kept_key action kept_action begun seen error is f key_is action_is logged call = record {
  answered = tt;
  failed = leaves_pending s at hall old new key kept_key action kept_action begun.op begun.place seen is f.there f.saw f.same key_is action_is call.began.later
      log logged call.middle call.began.begins call.kept error (stalled_may _ _ _ call.why) call.stopped;
  reason = stalled s log (slice_set s.seen at (begun.place + 1)) at hall old call.middle new key action begun.op begun.place error true f.there f.same call.began.begins call.why;
  stale = λ fewer. absurd (begun_has old call.middle new key action begun.op begun.place seen call.began.later call.began.begins call.kept.grown
      (finds_fewer s.passes s.seen at hall old new seen f.there f.saw f.same fewer));
}

-- it was answered
pub answered_leaves : {reach : Reach} (s : Seat) (log : List Entry) (at hall : ℕ) (old new : ClientView) (key kept_key : List ℕ) (action kept_action : Action) (begun : Begun) (ended : Ended) (seen : ℕ) (answer : Answer)
    → IsSeat s → s.is_spent ≡ false → Found s at hall old seen → kept_key ≡ key → kept_action ≡ action
    → log ≡ s.log ++ ended_entry (begun_entry hall begun.op kept_key kept_action begun.place) ended.place ended.returned ∷ []
    → CallIsAnswered old key action seen begun ended new → answer.value ≡ value_of ended.returned → answer.receipt ≡ record { store = s.store; hall = hall; call = begun.op; place = ended.place }
    → CallLeaves reach s hall key action (Ok answer) (record { store = s.store; client = s.client; is_spent = s.is_spent; log = log; passes = slice_set s.passes at new; seen = slice_set s.seen at (ended.place + 1) })
answered_leaves {reach} s log at hall old new key kept_key action kept_action begun ended seen answer is unspent f key_is action_is logged call value receipt = record {
  answered = answers s at hall old new key kept_key action kept_action begun.op begun.place seen is f.there f.saw f.same key_is action_is call.began.later
      ended.op ended.returned ended.place log logged unspent call.middle call.began.begins call.ends answer value receipt;
  failed = tt;
  reason = tt;
  stale = λ fewer. absurd (begun_has old call.middle new key action begun.op begun.place seen call.began.later call.began.begins (ended_grown call.middle new _ _ _ call.ends)
      (finds_fewer s.passes s.seen at hall old new seen f.there f.saw f.same fewer));
}
