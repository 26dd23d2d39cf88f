-- What is fixed of a world before its first step.
use Rattle.std.specs.Prelude.{ℕ, ◌≤◌}
use Rattle.tag.specs.Limits.{call_limit, replica_limit}
use Rattle.quorum.specs.Quorums.{Quorums, majority_of}
use Rattle.client_phases.specs.declared.rules.ReadMode.{ReadMode}
use Rattle.client_phases.specs.declared.rules.ReadMode.TheVariants.{Full}

-- how many messages a configuration may allow
abbrev pub message_limit : ℕ
message_limit = 16000000

-- the quorums, how clients read, and how many calls may be invoked and messages sent
pub record Config : Type 0 where
  pub quorums : Quorums
  pub reads : ReadMode
  pub calls : ℕ
  pub flights : ℕ

-- a configuration may have so many replicas, calls and messages: 1 to 15, 1 to 1,000,000, and 1 to
-- 16,000,000
pub record AreAllowedSizes (replicas calls flights : ℕ) : Type 0 where
  pub some_replica : 1 ≤ replicas
  pub most_replicas : replicas ≤ replica_limit
  pub some_call : 1 ≤ calls
  pub most_calls : calls ≤ call_limit
  pub some_flight : 1 ≤ flights
  pub most_flights : flights ≤ message_limit

-- majorities of the replicas, and full reads
abbrev pub config_of : ℕ → ℕ → ℕ → Config
config_of replicas calls flights =
    record { quorums = majority_of replicas; reads = Full; calls = calls; flights = flights }
