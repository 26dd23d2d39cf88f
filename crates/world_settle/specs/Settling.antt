-- The steps that complete a client's pending call: while it asks or puts, a request to the least
-- replica that is up and not counted yet, and its reply; then the response.
use Rattle.std.specs.Prelude.{ℕ, ◌≡◌, ◌+◌, Bool, true, false, not, ◌&&◌, List, [], ◌∷◌, ◌++◌}
use Rattle.std.specs.Prelude.{length, slice_get, filter}
use Rattle.std.specs.List.{range_with_len}
use Rattle.std.specs.Option.{option_map_or}
use Rattle.std.specs.FinSet as finite
use Rattle.std.specs.FinMap as map
use Rattle.quorum.specs.Sets.{Replicas}
use Rattle.client_phases.specs.Clients.{counted_by}
use Rattle.world_steps.specs.Refusals.{phase_at, has_request, is_ready}
use Rattle.world_steps.specs.Runs.{after_from}
use Rattle.world_steps.specs.declared.step.Step.{Step}
use Rattle.world_steps.specs.declared.step.Step.TheVariants as step
use Rattle.world_steps.specs.declared.system.System.{System}

-- the replica of that number is up
abbrev pub is_up : System → ℕ → Bool
is_up s replica = option_map_or (λ node. node.is_up) (slice_get s.nodes replica) false

-- it is up, and the set lacks it
abbrev pub is_candidate : System → Replicas → ℕ → Bool
is_candidate s set replica = is_up s replica && not (finite.contains set replica)

-- the replicas that are up and that a set lacks, the least number first
abbrev pub candidates : System → Replicas → List ℕ
candidates s set = filter (is_candidate s set) (range_with_len 0 (length s.config.quorums.votes))

-- the set with those members too
abbrev pub with_all : Replicas → List ℕ → Replicas
with_all set [] = set
with_all set (replica ∷ replicas) = with_all (finite.insert set replica) replicas

-- the replicas that the client counted in this phase
abbrev pub counted_at : System → ℕ → Replicas
counted_at s name = option_map_or counted_by (map.get s.members.clients name) finite.empty

-- a round: the client's request to the replica, which comes to it, and its reply, which comes back
abbrev pub round : System → ℕ → ℕ → List Step
round s name replica =
    step.Send name replica ∷ step.Deliver s.pool.sent ∷ step.Deliver (s.pool.sent + 1) ∷ []

-- the steps that complete the client's pending call
pub data AreSettleSteps (name : ℕ) : System → List Step → Type 0 where
  answers : (s : System) → is_ready (phase_at s name) ≡ true
      → AreSettleSteps name s (step.Respond name ∷ [])
  asks : (s : System) (replica : ℕ) (others : List ℕ) (steps : List Step)
      → has_request (phase_at s name) ≡ true → candidates s (counted_at s name) ≡ replica ∷ others
      → AreSettleSteps name (after_from s (round s name replica)) steps
      → AreSettleSteps name s (round s name replica ++ steps)
