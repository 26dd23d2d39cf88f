-- Rounds of messages: in each a client sends its request to the replicas that it hasn't counted.
use Rattle.std.specs.Prelude.{ℕ, ◌≡◌, ◌≤◌, ◌+◌, true, Ok}
use Rattle.std.specs.FinSet as finite
use Rattle.tag.specs.Limits.{replica_limit}
use Rattle.quorum.specs.Sets.{Replicas}
use Rattle.client_phases.specs.declared.outcomes.Phase.{Phase}
use Rattle.world_steps.specs.declared.effect.Effect.TheVariants as effect
use Rattle.world_steps.specs.declared.step.Step.TheVariants as step
use Rattle.hall_lock.specs.Turns.{ClientView, LooksAt, StandsIn, TakesTurn}
use Rattle.seats.specs.Calls.{KeepsLog}

-- how many replicas a call may reach, and how many rounds a phase of it makes
pub record Reach : Type 0 where
  pub replicas : ℕ
  pub rounds : ℕ

-- the client's request to a replica was sent; or there is no replica of that number
pub data AsksReplica (replicas : ℕ) (old : ClientView) (replica : ℕ) (new : ClientView) : Type 0
  where
    NoReplica : replicas ≤ replica → new ≡ old → AsksReplica replicas old replica new
    Asked : (flight : ℕ) (middle : ClientView)
        → TakesTurn old (step.Send old.client replica) (Ok (effect.Sent flight)) middle
        → KeepsLog middle new → AsksReplica replicas old replica new

-- the client's request was sent to each of the first so many replicas, but those that were counted
pub data AsksReplicas (replicas : ℕ) (counted : Replicas) (old : ClientView) : ℕ → ClientView
    → Type 0 where
  nobody : AsksReplicas replicas counted old 0 old
  leaves_out : (number : ℕ) (new : ClientView) → finite.contains counted number ≡ true
      → AsksReplicas replicas counted old number new
      → AsksReplicas replicas counted old (number + 1) new
  asks : (number : ℕ) (middle new : ClientView) → AsksReplica replicas middle number new
      → AsksReplicas replicas counted old number middle
      → AsksReplicas replicas counted old (number + 1) new

-- a round of a client that had counted these replicas: it asks the others, hears what they report,
-- and has counted those after that
pub record MakesRound (replicas : ℕ) (old : ClientView) (counted next : Replicas)
    (new : ClientView) : Type 0 where
  pub asked : ClientView
  pub heard : ClientView
  pub phase : Phase
  pub asks : AsksReplicas replicas counted old replica_limit asked
  pub hears : KeepsLog asked heard
  pub counts : LooksAt heard (StandsIn heard.client phase next) new

-- so many rounds, of which the first begins with nobody counted
pub data MakesRounds (replicas : ℕ) (old : ClientView) : ℕ → Replicas → ClientView → Type 0 where
  none : MakesRounds replicas old 0 finite.empty old
  one_more : (made : ℕ) (counted next : Replicas) (middle new : ClientView)
      → MakesRounds replicas old made counted middle
      → MakesRound replicas middle counted next new
      → MakesRounds replicas old (made + 1) next new

-- in these turns a phase made all its rounds, and the others kept the client's log
pub record RunsOut (reach : Reach) (old new : ClientView) : Type 0 where
  pub before : ClientView
  pub counted : Replicas
  pub after : ClientView
  pub earlier : KeepsLog old before
  pub rounds : MakesRounds reach.replicas before reach.rounds counted after
  pub later : KeepsLog after new
