-- Why a call stalls, from one turn of it to all of them.
use Rattle.std.proofs.Common.{◌≡◌, ℕ, Result, Ok, Err, inl, inr, subst}
use Rattle.std.specs.Prelude.{IfOk, IfErr}
use Rattle.client_phases.specs.declared.outcomes.Taken.{Taken}
use Rattle.world_steps.specs.declared.effect.Effect.TheVariants as effect
use Rattle.world_steps.specs.declared.refusal.Refusal.{Refusal}
use Rattle.world_steps.specs.declared.step.Step.{Step}
use Rattle.hall_lock.specs.Turns.{ClientView, TakesFlight, TakesTurn}
use Rattle.quorum.specs.Sets.{Replicas}
use Rattle.seats.specs.declared.errand.Stall.{Stall}
use Rattle.seats.specs.declared.errand.Stall.TheVariants as stall
use Rattle.seats.specs.Calls.{KeepsLog}
use Rattle.seats.specs.Reasons.{IsRefusedTurn, IsUnmet, Stalls, stall_of}
use Rattle.seats.specs.Reasons.Stalls.{OutOfRounds, Refused, Unmet}
use Rattle.seats.specs.Rounds.{MakesRounds, Reach, RunsOut}
use Rattle.seats.specs.Parcels.{IsDelivery}
use Rattle.seats.proofs.Keeping.{keeps_same, keeps_then}

-- turns before those that stalled
pub stalls_then : {reach : Reach} (a b : ClientView) (stall : Stall) (c : ClientView) → KeepsLog a b → Stalls reach b stall c → Stalls reach a stall c
stalls_then {reach} a b stall c kept (Refused why is meets) = Refused why is (record {
  before = meets.before;
  after = meets.after;
  earlier = keeps_then a b meets.before kept meets.earlier;
  turn = meets.turn;
  later = meets.later;
})
stalls_then {reach} a b stall c kept (OutOfRounds is out) = OutOfRounds is (record {
  before = out.before;
  counted = out.counted;
  after = out.after;
  earlier = keeps_then a b out.before kept out.earlier;
  rounds = out.rounds;
  later = out.later;
})
stalls_then {reach} a b stall c kept (Unmet is) = Unmet is

-- turns after those that stalled
pub stalls_still : {reach : Reach} (a b : ClientView) (stall : Stall) (c : ClientView) → Stalls reach a stall b → KeepsLog b c → Stalls reach a stall c
stalls_still {reach} a b stall c (Refused why is meets) kept = Refused why is (record {
  before = meets.before;
  after = meets.after;
  earlier = meets.earlier;
  turn = meets.turn;
  later = keeps_then meets.after b c meets.later kept;
})
stalls_still {reach} a b stall c (OutOfRounds is out) kept = OutOfRounds is (record {
  before = out.before;
  counted = out.counted;
  after = out.after;
  earlier = out.earlier;
  rounds = out.rounds;
  later = keeps_then out.after b c out.later kept;
})
stalls_still {reach} a b stall c (Unmet is) kept = Unmet is

-- a refused turn
pub turn_stalls : {reach : Reach} (a b : ClientView) (stall : Stall) (why : Refusal) → stall ≡ stall_of why → IsRefusedTurn a why b → Stalls reach a stall b
turn_stalls {reach} a b stall why is turn = Refused why is (record { before = a; after = b; earlier = keeps_same a; turn = turn; later = keeps_same b })

pub step_stalls : {reach : Reach} (a b : ClientView) (stall : Stall) (why : Refusal) (step : Step) → stall ≡ stall_of why → TakesTurn a step (Err why) b → Stalls reach a stall b
step_stalls {reach} a b stall why step is turn = turn_stalls a b stall why is (inl (step, turn))

-- a delivery
pub any_delivery : (a b : ClientView) (flight : ℕ) (r : Result Taken Refusal) → IfOk r (λ taken. TakesFlight a flight (Ok (effect.Taken taken)) b) → IfErr r (λ why. TakesFlight a flight (Err why) b) → IsDelivery a flight b
any_delivery a b flight (Ok taken) ok err = (Ok (effect.Taken taken), ok)
any_delivery a b flight (Err why) ok err = (Err why, err)

pub delivery_stalls : {T : Type 0} (a b : ClientView) (flight : ℕ) (taken : Result Taken Refusal) (r : Result T Stall) → IfErr taken (λ why. TakesFlight a flight (Err why) b)
    → IfErr r (λ stall. (why : Refusal) × (taken ≡ Err why) × (stall ≡ stall_of why)) → IfErr r (λ stall. (reach : Reach) → Stalls reach a stall b)
delivery_stalls {T} a b flight taken (Ok x) refused is = tt
delivery_stalls {T} a b flight taken (Err stall) refused (why, was, told) = λ reach.
    turn_stalls a b stall why told (inr (flight, subst (λ (t : Result Taken Refusal). IfErr t (λ why. TakesFlight a flight (Err why) b)) was refused))

-- the same of what a function answers
pub all_stall : {T : Type 0} (reach : Reach) (a b : ClientView) (c : ClientView) (r : Result T Stall) → KeepsLog a b → IfErr r (λ stall. Stalls reach b stall c) → IfErr r (λ stall. Stalls reach a stall c)
all_stall {T} reach a b c (Ok x) kept is = tt
all_stall {T} reach a b c (Err stall) kept is = stalls_then a b stall c kept is

pub unmet_stall : {T : Type 0} (reach : Reach) (a b : ClientView) (r : Result T Stall) → IfErr r IsUnmet → IfErr r (λ stall. Stalls reach a stall b)
unmet_stall {T} reach a b (Ok x) is = tt
unmet_stall {T} reach a b (Err stall) is = Unmet is

-- all rounds of a phase
pub rounds_stall : {reach : Reach} (a b : ClientView) (told : Stall) (counted : Replicas) → told ≡ stall.Unavailable
    → MakesRounds reach.replicas a reach.rounds counted b → Stalls reach a told b
rounds_stall {reach} a b told counted is rounds = OutOfRounds is (record {
  before = a;
  counted = counted;
  after = b;
  earlier = keeps_same a;
  rounds = rounds;
  later = keeps_same b;
})
