-- Which errors a call may answer that didn't begin, and which one that began.
use Rattle.std.proofs.Common.{ℕ, List, sym, subst}
use Rattle.tag.specs.declared.actions.Action.{Action}
use Rattle.world_steps.specs.declared.refusal.Refusal.{Refusal}
use Rattle.world_steps.specs.declared.refusal.Refusal.TheVariants as refusal
use Rattle.hall_lock.specs.declared.client_pass.Delay.{Delay}
use Rattle.hall_lock.specs.declared.client_pass.Delay.TheVariants as delay
use Rattle.hall_lock.specs.Turns.{ClientView}
use Rattle.seats.specs.declared.errors.CallError.{CallError}
use Rattle.seats.specs.declared.errors.CallError.TheVariants as fault
use Rattle.seats.specs.declared.errand.Stall.{Stall}
use Rattle.seats.specs.declared.errand.Stall.TheVariants as stall
use Rattle.seats.specs.Reasons.{IsHeldBack, IsStalled, delay_error, refusal_error, stall_error}
use Rattle.seats.specs.Rounds.{Reach}

-- an error of a call that didn't begin: none of a call whose rounds ran out, and none of a spent seat
abbrev pub MayRefuse : CallError → Type 0
MayRefuse fault.Unavailable = ⊥
MayRefuse fault.SeatSpent = ⊥
MayRefuse other = Unit {0}

-- an error of a call that began
abbrev pub MayStay : CallError → Type 0
MayStay fault.SeatSpent = ⊥
MayStay fault.Foreign = ⊥
MayStay other = Unit {0}

refused_may : (why : Refusal) → MayRefuse (refusal_error why)
refused_may refusal.NoSuchReplica = tt
refused_may refusal.NoSuchClient = tt
refused_may refusal.ClientTaken = tt
refused_may refusal.ClientStopped = tt
refused_may refusal.ClientBusy = tt
refused_may refusal.NothingToSend = tt
refused_may refusal.NotInFlight = tt
refused_may refusal.NotReady = tt
refused_may refusal.ReplicaDown = tt
refused_may refusal.ReplicaUp = tt
refused_may refusal.CopiesFull = tt
refused_may refusal.OpsFull = tt
refused_may refusal.FlightsFull = tt
refused_may refusal.Memory = tt

delay_may : (d : Delay) → MayRefuse (delay_error d)
delay_may delay.Foreign = tt
delay_may (delay.Refused why) = refused_may why

stall_may : (s : Stall) → MayStay (stall_error s)
stall_may stall.Unavailable = tt
stall_may stall.Gone = tt
stall_may stall.Full = tt
stall_may stall.Memory = tt

pub held_may : (old : ClientView) (key : List ℕ) (action : Action) (seen : ℕ) (error : CallError) (new : ClientView) → IsHeldBack old key action seen error new → MayRefuse error
held_may old key action seen error new held = subst MayRefuse (sym held.told) (delay_may held.delay)

pub stalled_may : {reach : Reach} (old : ClientView) (error : CallError) (new : ClientView) → IsStalled reach old error new → MayStay error
stalled_may {reach} old error new stalled = subst MayStay (sym stalled.told) (stall_may stalled.stall)
