-- What a call on a seat answers, and what it leaves.
use Rattle.std.specs.Prelude.{ℕ, ◌≡◌, ◌<◌, ◌⊎◌, true, List, Some, Result, Err, IfErr, IfOk, length}
use Rattle.std.specs.Prelude.{slice_get}
use Rattle.tag.specs.declared.actions.Action.{Action}
use Rattle.tag.specs.declared.numbers.OpId.{OpId}
use Rattle.recorder.specs.declared.part.Response.{Response}
use Rattle.hall_lock.specs.Turns.{ClientView}
use Rattle.seats.specs.Calls.{BeginsCall}
use Rattle.seats.specs.Reasons.{IsHeldBack, IsStalled}
use Rattle.seats.specs.Rounds.{Reach}
use Rattle.seats.specs.Seats.{Calls, DidNotBegin, LeavesPending, Seat, seen_in, value_of}
use Rattle.recorder.specs.declared.log_entry.Entry.{Entry}
use Rattle.seats.specs.declared.errors.CallError.{CallError}
use Rattle.seats.specs.declared.errors.CallError.TheVariants as fault
use Rattle.seats.specs.declared.seat.Answer.{Answer}

-- the answer's value is the response's, and its receipt names the store, the hall, the call and the
-- place of the response
pub record IsAnswerOf (s : Seat) (entry : Entry) (response : Response) (answer : Answer) : Type 0
  where
    pub value : answer.value ≡ value_of response.returned
    pub receipt : answer.receipt ≡ record {
      store = s.store;
      hall = entry.hall;
      call = entry.op;
      place = response.place;
    }

-- the call was answered, with this answer
pub record IsAnswered (old : Seat) (hall : ℕ) (key : List ℕ) (action : Action) (answer : Answer)
    (new : Seat) : Type 0 where
  pub entry : Entry
  pub response : Response
  pub calls : Calls old hall key action entry response new
  pub tells : IsAnswerOf old entry response answer

-- the call didn't begin; or it is pending, and the seat is spent
abbrev pub LeavesUnanswered : Seat → ℕ → List ℕ → Action → Seat → Type 0
LeavesUnanswered old hall key action new =
    DidNotBegin old new ⊎ ((entry : Entry) × LeavesPending old hall key action entry new)

-- what each error says of the call: `Unavailable` that it is pending; `SeatSpent` that the seat was
-- spent, and stays as it was; `Foreign` that it didn't begin; `Full` and `Memory` one of the two
abbrev pub FailsWith : CallError → Seat → ℕ → List ℕ → Action → Seat → Type 0
FailsWith fault.Unavailable old hall key action new =
    (entry : Entry) × LeavesPending old hall key action entry new
FailsWith fault.SeatSpent old hall key action new = (old.is_spent ≡ true) × (new ≡ old)
FailsWith fault.Foreign old hall key action new = DidNotBegin old new
FailsWith fault.Full old hall key action new = LeavesUnanswered old hall key action new
FailsWith fault.Memory old hall key action new = LeavesUnanswered old hall key action new

-- the seat's pass of that hall, before a call and after it
pub record HasPass (old : Seat) (hall : ℕ) (new : Seat) : Type 0 where
  pub before : ClientView
  pub after : ClientView
  pub was : slice_get old.passes hall ≡ Some before
  pub is : slice_get new.passes hall ≡ Some after

-- why a call of the seat in that hall isn't answered, as the error tells: no memory for it before
-- any turn; or it was held back in one turn; or it began, and stalled
pub data HasReason (reach : Reach) (error : CallError) (old : Seat) (hall : ℕ) (key : List ℕ)
    (action : Action) (new : Seat) : Type 0 where
  NoMemory : error ≡ fault.Memory → new.passes ≡ old.passes
      → HasReason reach error old hall key action new
  HeldBack : (pass : HasPass old hall new)
      → IsHeldBack pass.before key action (seen_in old hall) error pass.after
      → HasReason reach error old hall key action new
  Stalled : (pass : HasPass old hall new) (op : OpId) (place : ℕ) (middle : ClientView)
      → BeginsCall pass.before key action op place middle → IsStalled reach middle error pass.after
      → HasReason reach error old hall key action new

-- after a call, the seat's pass of that hall knows fewer rows than the seat had seen there before
abbrev pub SeesFewer : Seat → ℕ → Seat → Type 0
SeesFewer old hall new = (pass : ClientView) × (slice_get new.passes hall ≡ Some pass)
    × (length pass.rows < seen_in old hall)

-- what a call of the seat in that hall gives, and what it leaves: an answer, or an error that says
-- why and what stands; where the record has fewer rows than were seen, `Foreign` or `Memory`
pub record CallLeaves (reach : Reach) (old : Seat) (hall : ℕ) (key : List ℕ) (action : Action)
    (result : Result Answer CallError) (new : Seat) : Type 0 where
  pub answered : IfOk result (λ answer. IsAnswered old hall key action answer new)
  pub failed : IfErr result (λ error. FailsWith error old hall key action new)
  pub reason : IfErr result (λ error. HasReason reach error old hall key action new)
  pub stale : SeesFewer old hall new
      → (result ≡ Err fault.Foreign) ⊎ (result ≡ Err fault.Memory)
