-- The votes of one replica, as those of a set.
use Rattle.std.proofs.Common.{ℕ, zero, suc, ◌≡◌, ◌<◌, ◌+◌, cond, List, length, slice_index, refl, ap, ◌∙◌, arith}
use Rattle.std.specs.FinSet as finite
use Rattle.std.specs.Ordering.{nat_cmp}
use Rattle.quorum.specs.Quorums.{votes_below, votes_of}
use Rattle.quorum.specs.Sets.{Replicas}
use Rattle.quorum.proofs.MoreVotes.{votes_of-insert}

abbrev none : Replicas
none = finite.empty

no_votes : (votes : List ℕ) (n : ℕ) → votes_below votes n none ≡ 0
no_votes votes zero = refl
no_votes votes (suc n) =
    let out : cond (finite.contains none n) (slice_index votes n) 0 ≡ 0 =
    ap (λ b. cond b (slice_index votes n) 0) (finite.contains-empty nat_cmp n) in
    omega (arith, no_votes votes n, out)

pub alone : (votes : List ℕ) (replica : ℕ) → replica < length votes → votes_of votes (finite.insert none replica)
    ≡ slice_index votes replica
alone votes replica h = votes_of-insert votes none replica h (finite.contains-empty nat_cmp replica)
    ∙ ap (λ n. n + slice_index votes replica) (no_votes votes (length votes)) ∙ omega arith
