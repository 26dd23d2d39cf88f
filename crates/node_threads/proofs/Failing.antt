-- What stands after a call that has no answer.
use Rattle.std.proofs.Common.{◌≡◌, ℕ, Result, Ok, Err, List, sym, subst, inl, inr}
use Rattle.std.specs.Prelude.{IfErr, OnErr}
use Rattle.tag.specs.declared.actions.Action.{Action}
use Rattle.seats.specs.declared.errors.CallError.{CallError}
use Rattle.seats.specs.declared.errors.CallError.TheVariants as fault
use Rattle.seats.specs.Answers.{CallLeaves, FailsWith, LeavesUnanswered}
use Rattle.seats.specs.Rounds.{Reach}
use Rattle.seats.specs.declared.seat.Answer.{Answer}
use Rattle.seats.specs.Seats.{DidNotBegin, Seat}
use Rattle.seats.proofs.SeatChanges.{unbegun}

left_unanswered : (error : CallError) (old : Seat) (hall : ℕ) (key : List ℕ) (action : Action) (new : Seat)
    → FailsWith error old hall key action new → LeavesUnanswered old hall key action new
left_unanswered fault.Unavailable old hall key action new is = inr is
left_unanswered fault.SeatSpent old hall key action new is = inl (subst (DidNotBegin old) (sym is.1) (unbegun old))
left_unanswered fault.Foreign old hall key action new is = inl is
left_unanswered fault.Full old hall key action new is = is
left_unanswered fault.Memory old hall key action new is = is

pub leaves_unanswered : {T : Type 0} (r : Result T CallError) (old : Seat) (hall : ℕ) (key : List ℕ) (action : Action) (new : Seat)
    → IfErr r (λ error. FailsWith error old hall key action new) → OnErr r (LeavesUnanswered old hall key action new)
leaves_unanswered (Ok x) old hall key action new is = tt
leaves_unanswered (Err error) old hall key action new is = left_unanswered error old hall key action new is

-- the call's hall is that of its key
pub leaves_in : {reach : Reach} (old : Seat) (hall other : ℕ) (key : List ℕ) (action : Action) (r : Result Answer CallError) (new : Seat) → hall ≡ other
    → CallLeaves reach old hall key action r new → CallLeaves reach old other key action r new
leaves_in {reach} old hall other key action r new same left = subst (λ h. CallLeaves reach old h key action r new) same left
