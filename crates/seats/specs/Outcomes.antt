-- What became of a call, as its client's pass saw it.
use Rattle.std.specs.Prelude.{ℕ, ◌≡◌, ◌≤◌, true, List}
use Rattle.tag.specs.declared.actions.Action.{Action}
use Rattle.hall_lock.specs.declared.client_pass.Begun.{Begun}
use Rattle.hall_lock.specs.declared.client_pass.Ended.{Ended}
use Rattle.hall_lock.specs.Halls.{most_elements}
use Rattle.hall_lock.specs.Turns.{ClientView}
use Rattle.seats.specs.Calls.{BeginsCall, EndsCall, KeepsLog}
use Rattle.seats.specs.Reasons.{IsHeldBack, IsStalled}
use Rattle.seats.specs.Rounds.{Reach}
use Rattle.seats.specs.declared.errors.CallError.{CallError}
use Rattle.seats.specs.declared.errand.Outcome.{Outcome}
use Rattle.seats.specs.declared.errand.Outcome.TheVariants as outcome

-- a call of a pass's client that has seen so many rows
module _ (old : ClientView) (key : List ℕ) (action : Action) (seen : ℕ) where
  -- the call began, after all rows that were seen
  pub record CallBegan (begun : Begun) (new : ClientView) : Type 0 where
    pub later : seen ≤ begun.place
    pub begins : BeginsCall old key action begun.op begun.place new

  -- the call began, and its client is stopped before an answer; the error tells why
  pub record CallIsPending (reach : Reach) (begun : Begun) (error : CallError) (new : ClientView)
      : Type 0 where
    pub middle : ClientView
    pub began : CallBegan begun middle
    pub kept : KeepsLog middle new
    pub stopped : new.is_stopped ≡ true
    pub why : IsStalled reach middle error new

  -- the call began, and was answered
  pub record CallIsAnswered (begun : Begun) (ended : Ended) (new : ClientView) : Type 0 where
    pub middle : ClientView
    pub began : CallBegan begun middle
    pub ends : EndsCall middle ended.op ended.returned ended.place new

  -- the call didn't begin; or it is pending; or it was answered
  abbrev pub CallComesTo : Reach → Outcome → ClientView → Type 0
  CallComesTo reach (outcome.Refused error) new =
      IsHeldBack old key action seen error new × KeepsLog old new
  CallComesTo reach (outcome.Pending begun error) new = CallIsPending reach begun error new
  CallComesTo reach (outcome.Done begun ended) new = CallIsAnswered begun ended new

-- places are below the lengths of lists that a program holds, and the copy of an answer is the
-- answer
abbrev pub IsPlaced : Outcome → Type 0
IsPlaced (outcome.Refused error) = Unit {0}
IsPlaced (outcome.Pending begun error) = begun.place ≤ most_elements
IsPlaced (outcome.Done begun ended) = (begun.place ≤ most_elements)
    × (ended.place ≤ most_elements) × (ended.copy ≡ ended.returned)
