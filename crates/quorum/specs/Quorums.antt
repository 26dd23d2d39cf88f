-- Quorums by votes (Gifford 1979).
use Rattle.std.specs.Prelude.{ℕ, zero, suc, ◌+◌, ◌/◌, ◌<◌, ◌≤◌, Bool, if◌then◌else◌, nat_le, List}
use Rattle.std.specs.Prelude.{length, slice_index, replicate, sum, All, IsTrue}
use Rattle.std.specs.FinSet as finite
use Rattle.tag.specs.Limits.{replica_limit}
use Rattle.quorum.specs.Sets.{Replicas}

-- the votes of each replica, and how many votes make an ask quorum and a put quorum
pub record Quorums : Type 0 where
  pub votes : List ℕ
  pub ask : ℕ
  pub put : ℕ

-- what the members of a set below a number have in votes
abbrev pub votes_below : List ℕ → ℕ → Replicas → ℕ
votes_below votes zero set = 0
votes_below votes (suc n) set =
    votes_below votes n set + (if finite.contains set n then slice_index votes n else 0)

-- the votes of a set: the sum of the votes of its members; a number that isn't below the count of
-- replicas has none
abbrev pub votes_of : List ℕ → Replicas → ℕ
votes_of votes set = votes_below votes (length votes) set

-- 1 to 15 replicas with 1 to 9 votes each; both quorums can be reached, and together they are more
-- than all votes
pub record IsLawful (quorums : Quorums) : Type 0 where
  pub some_replica : 1 ≤ length quorums.votes
  pub most_replicas : length quorums.votes ≤ replica_limit
  pub each_votes : All (λ v. (1 ≤ v) × (v ≤ 9)) quorums.votes
  pub some_ask : 1 ≤ quorums.ask
  pub most_ask : quorums.ask ≤ sum quorums.votes
  pub some_put : 1 ≤ quorums.put
  pub most_put : quorums.put ≤ sum quorums.votes
  pub overlap : sum quorums.votes < quorums.ask + quorums.put

-- one vote for each of n replicas, and more than half of them for both quorums
abbrev pub majority_of : ℕ → Quorums
majority_of n = record { votes = replicate n 1; ask = n / 2 + 1; put = n / 2 + 1 }

-- an ask quorum: a set with at least so many votes
abbrev pub IsAskQuorum : Quorums → Replicas → Type 0
IsAskQuorum quorums set = quorums.ask ≤ votes_of quorums.votes set

-- a put quorum: a set with at least so many votes
abbrev pub IsPutQuorum : Quorums → Replicas → Type 0
IsPutQuorum quorums set = quorums.put ≤ votes_of quorums.votes set

-- the tests of the two
abbrev pub is_ask_quorum : Quorums → Replicas → Bool
is_ask_quorum quorums set = nat_le quorums.ask (votes_of quorums.votes set)

abbrev pub is_put_quorum : Quorums → Replicas → Bool
is_put_quorum quorums set = nat_le quorums.put (votes_of quorums.votes set)

-- two sets share a replica
pub record Share (quorums : Quorums) (some other : Replicas) : Type 0 where
  pub replica : ℕ
  pub is_replica : replica < length quorums.votes
  pub in_some : IsTrue (finite.contains some replica)
  pub in_other : IsTrue (finite.contains other replica)
