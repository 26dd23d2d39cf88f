-- Why a call isn't answered, and which error tells of it.
use Rattle.std.specs.Prelude.{ℕ, ◌≡◌, ◌⊎◌, List, Err}
use Rattle.tag.specs.declared.actions.Action.{Action}
use Rattle.world_steps.specs.declared.refusal.Refusal.{Refusal}
use Rattle.world_steps.specs.declared.refusal.Refusal.TheVariants as refusal
use Rattle.world_steps.specs.declared.step.Step.{Step}
use Rattle.world_steps.specs.declared.step.Step.TheVariants as step
use Rattle.hall_lock.specs.declared.client_pass.Delay.{Delay}
use Rattle.hall_lock.specs.declared.client_pass.Delay.TheVariants as delay
use Rattle.hall_lock.specs.Turns.{ClientView, IsDelayed, TakesFlight, TakesTurn}
use Rattle.seats.specs.declared.errors.CallError.{CallError}
use Rattle.seats.specs.declared.errors.CallError.TheVariants as fault
use Rattle.seats.specs.declared.errand.Stall.{Stall}
use Rattle.seats.specs.declared.errand.Stall.TheVariants as stall
use Rattle.seats.specs.Calls.{KeepsLog}
use Rattle.seats.specs.Rounds.{Reach, RunsOut}

-- ---- a call that didn't begin

-- the error of a refused invocation: `Full` of `OpsFull` and `FlightsFull`, `Memory` of `Memory`,
-- and `Foreign` of each other
abbrev pub refusal_error : Refusal → CallError
refusal_error refusal.OpsFull = fault.Full
refusal_error refusal.FlightsFull = fault.Full
refusal_error refusal.Memory = fault.Memory
refusal_error other = fault.Foreign

-- the error of a call that didn't begin: `Foreign` where the record has fewer rows than were seen
abbrev pub delay_error : Delay → CallError
delay_error delay.Foreign = fault.Foreign
delay_error (delay.Refused why) = refusal_error why

-- one turn, in which the call didn't begin; the error tells why
pub record IsHeldBack (old : ClientView) (key : List ℕ) (action : Action) (seen : ℕ)
    (error : CallError) (new : ClientView) : Type 0 where
  pub delay : Delay
  pub turn : IsDelayed old (step.Invoke old.client key action) seen delay new
  pub told : error ≡ delay_error delay

-- ---- a call that began

-- why a call stalls where a step of it was refused: `Full` of `OpsFull` and `FlightsFull`, `Memory`
-- of `Memory`, and `Unavailable` of each other
abbrev pub stall_of : Refusal → Stall
stall_of refusal.OpsFull = stall.Full
stall_of refusal.FlightsFull = stall.Full
stall_of refusal.Memory = stall.Memory
stall_of other = stall.Unavailable

-- the error of a call that stalled
abbrev pub stall_error : Stall → CallError
stall_error stall.Unavailable = fault.Unavailable
stall_error stall.Gone = fault.Unavailable
stall_error stall.Full = fault.Full
stall_error stall.Memory = fault.Memory

-- one turn, in which a step or the delivery of a flight was refused for this reason
abbrev pub IsRefusedTurn : ClientView → Refusal → ClientView → Type 0
IsRefusedTurn old why new = ((step : Step) × TakesTurn old step (Err why) new)
    ⊎ ((flight : ℕ) × TakesFlight old flight (Err why) new)

-- one of these turns was refused, and the others kept the client's log
pub record MeetsRefusal (old : ClientView) (why : Refusal) (new : ClientView) : Type 0 where
  pub before : ClientView
  pub after : ClientView
  pub earlier : KeepsLog old before
  pub turn : IsRefusedTurn before why after
  pub later : KeepsLog after new

-- a call may stall so without a refused turn, and before its rounds run out: for want of memory for
-- a parcel, or because the thread of a replica has ended
abbrev pub IsUnmet : Stall → Type 0
IsUnmet stall.Memory = Unit {0}
IsUnmet stall.Gone = Unit {0}
IsUnmet other = ⊥

-- why a call stalls in these turns: one of them was refused; or no quorum of replies came in all
-- the rounds of a phase; or a parcel wasn't sent or reported on
pub data Stalls (reach : Reach) (old : ClientView) (told : Stall) (new : ClientView) : Type 0 where
  Refused : (why : Refusal) → told ≡ stall_of why → MeetsRefusal old why new
      → Stalls reach old told new
  OutOfRounds : told ≡ stall.Unavailable → RunsOut reach old new → Stalls reach old told new
  Unmet : IsUnmet told → Stalls reach old told new

-- a call stalled in these turns, and the error tells why
pub record IsStalled (reach : Reach) (old : ClientView) (error : CallError) (new : ClientView)
    : Type 0 where
  pub stall : Stall
  pub stalls : Stalls reach old stall new
  pub told : error ≡ stall_error stall
