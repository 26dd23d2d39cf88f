-- What a client counts is no quorum while it waits for one.
use Rattle.std.proofs.Common.{◌≡◌, ℕ, zero, suc, ◌+◌, ◌<◌, Bool, true, false, cond, List, slice_index, refl, arith}
use Rattle.std.proofs.lemmas.Bool.{lt-leb}
use Rattle.std.specs.FinSet as finite
use Rattle.std.specs.Ordering.{nat_cmp}
use Rattle.quorum.specs.Sets.{Replicas}
use Rattle.quorum.specs.Quorums.{Quorums, IsLawful, is_ask_quorum, is_put_quorum, votes_below, votes_of}
use Rattle.replica.specs.declared.replies.Reply.{Reply}
use Rattle.replica.specs.declared.replies.Reply.TheVariants.{Held, Kept}
use Rattle.client_phases.specs.Asking.{Asking, asking_with, counts, is_agreed}
use Rattle.client_phases.specs.Calls.{Chosen, pair_to_put}
use Rattle.client_phases.specs.States.{asking_outcome, reply_outcome, putting_outcome}
use Rattle.client_phases.specs.declared.outcomes.Taken.{Taken}
use Rattle.client_phases.specs.declared.outcomes.Taken.TheVariants.{Stale, Counted, Noted, Agreed}
use Rattle.client_phases.specs.declared.outcomes.Taken.TheVariants as outcome
use Rattle.client_phases.specs.declared.rules.Rules.{Rules}
use Rattle.client_phases.specs.declared.states.State.{State}
use Rattle.client_phases.specs.declared.states.State.TheVariants.{Idle, Ask, Put, Ready, Stopped}
use Rattle.world_steps.specs.SoundSystems.{IsWaiting}

-- nobody has no votes
pub nobody_below : (votes : List ℕ) (n : ℕ) → votes_below votes n finite.empty ≡ 0
nobody_below votes zero = refl
nobody_below votes (suc n) = one (votes_below votes n finite.empty) (slice_index votes n) (finite.contains {R = nat_cmp} finite.empty n) (nobody_below votes n) (finite.contains-empty nat_cmp n)
  where
    one : (a v : ℕ) (b : Bool) → a ≡ 0 → b ≡ false → a + cond b v 0 ≡ 0
    one a v true e f = absurd cc
    one a v false e f = omega arith

less : (quorum votes : ℕ) → votes ≡ 0 → 0 < quorum → votes < quorum
less quorum votes e h = omega arith

-- an asking, and a putting, begin without a quorum
pub nobody_asked : (quorums : Quorums) → IsLawful quorums → is_ask_quorum quorums finite.empty ≡ false
nobody_asked quorums lawful = let some = lawful.some_ask in lt-leb quorums.ask (votes_of quorums.votes finite.empty) (less quorums.ask (votes_of quorums.votes finite.empty) (nobody_below quorums.votes _) (omega (arith, some)))

pub nobody_put : (quorums : Quorums) → IsLawful quorums → is_put_quorum quorums finite.empty ≡ false
nobody_put quorums lawful = let some = lawful.some_put in lt-leb quorums.put (votes_of quorums.votes finite.empty) (less quorums.put (votes_of quorums.votes finite.empty) (nobody_below quorums.votes _) (omega (arith, some)))

module _ (rules : Rules) (lawful : IsLawful rules.quorums) where
  asked_by : (asking : Asking) (pair : Chosen) (found : Chosen) (a b : Bool) (some other : Taken) → is_ask_quorum rules.quorums asking.counted ≡ a
      → IsWaiting rules.quorums (cond {A = State × Taken} a (cond {A = State × Taken} b (Ready found, some) (Put pair finite.empty, other)) (Ask asking, Counted)).0
  asked_by asking pair found true true some other e = tt
  asked_by asking pair found true false some other e = nobody_put rules.quorums lawful
  asked_by asking pair found false b some other e = e

  asked_waits : (asking : Asking) → IsWaiting rules.quorums (asking_outcome rules asking).0
  asked_waits asking =
      asked_by asking (record { call = asking.call; pair = pair_to_put rules.name asking.call.action asking.best }) (record { call = asking.call; pair = asking.best })
      (is_ask_quorum rules.quorums asking.counted) (is_agreed rules asking) _ _ refl

  kept_by : (chosen : Chosen) (counted : Replicas) (b : Bool) → is_put_quorum rules.quorums counted ≡ b
      → IsWaiting rules.quorums (cond {A = State × Taken} b (Ready chosen, outcome.Ready) (Put chosen counted, Counted)).0
  kept_by chosen counted true e = tt
  kept_by chosen counted false e = e

  pick : (b : Bool) (x y : State × Taken) → IsWaiting rules.quorums x.0 → IsWaiting rules.quorums y.0 → IsWaiting rules.quorums (cond {A = State × Taken} b x y).0
  pick true x y p q = p
  pick false x y p q = q

  -- a reply that is taken leaves a client that waits
  pub heard_waits : (state : State) (reply : Reply) → IsWaiting rules.quorums state → IsWaiting rules.quorums (reply_outcome rules state reply).0
  heard_waits (Ask asking) (Held op replica tag value) waits =
      pick (counts rules asking.call asking.counted op replica) (asking_outcome rules (asking_with asking replica (record { tag = tag; value = value }))) (Ask asking, Stale)
      (asked_waits (asking_with asking replica (record { tag = tag; value = value }))) waits
  heard_waits (Put chosen counted) (Kept op replica) waits =
      pick (counts rules chosen.call counted op replica) (putting_outcome rules chosen (finite.insert counted replica)) (Put chosen counted, Stale)
      (kept_by chosen (finite.insert counted replica) (is_put_quorum rules.quorums (finite.insert counted replica)) refl) waits
  heard_waits (Ask asking) (Kept op replica) waits = waits
  heard_waits (Put chosen counted) (Held op replica tag value) waits = waits
  heard_waits Idle reply waits = tt
  heard_waits (Ready chosen) reply waits = tt
  heard_waits Stopped reply waits = tt
