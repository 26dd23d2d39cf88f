use Rattle.std.proofs.Common.{◌≡◌, ◌*◌, ◌≤◌}
use Rattle.quorum.specs.Quorums.{votes_below}
use Rattle.quorum.proofs.quorums.votes_of.Given as goal

abbrev pub invariant-loop-number : goal.invariant-loop-number
invariant-loop-number l = (l.total ≡ votes_below l.votes l.number l.set) × (l.total ≤ 9 * l.number)
