-- Two majorities share a replica.
use Rattle.std.proofs.Common.{◌≡◌, ℕ, ◌*◌, replicate, sum, arith}
use Rattle.std.proofs.lemmas.List.Folds.{sum_by-replicate}
use Rattle.std.specs.FinSet as finite
use Rattle.quorum.specs.Sets.{Replicas, IsOfFirst, IsMajority}
use Rattle.quorum.specs.Quorums.{Share, majority_of, votes_of}
use Rattle.quorum.proofs.SharedReplicas.{votes_share}
use Rattle.quorum.proofs.Votes.{votes_of-ones}

pub majorities_share : (n : ℕ) (some other : Replicas)
    → IsOfFirst n some → IsMajority n some → IsOfFirst n other → IsMajority n other → Share (majority_of n) some other
majorities_share n some other among half among_other half_other =
    let total : sum (replicate n 1) ≡ n * 1 = sum_by-replicate (λ x. x) n 1 in
    let members : votes_of (replicate n 1) some ≡ finite.len some = votes_of-ones n some among in
    let others : votes_of (replicate n 1) other ≡ finite.len other = votes_of-ones n other among_other in
    votes_share (majority_of n) some other (omega (arith, total, members, others, half, half_other))
