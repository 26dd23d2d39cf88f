use Rattle.std.proofs.Common.{◌-◌}
use Rattle.world_settle.proofs.Counting.{Counting}
use Rattle.world_settle.proofs.candidates.candidates_needed.Given as goal

-- so many of the candidates came to the set, and fewer aren't enough
abbrev pub invariant-loop-quorums : goal.invariant-loop-quorums
invariant-loop-quorums l = Counting l.world l.fn.counted l.set l.votes l.count

abbrev pub decreases-loop-quorums : goal.decreases-loop-quorums
decreases-loop-quorums l = 16 - l.count
