use Rattle.std.proofs.Common.{◌≡◌, length}
use Rattle.world_settle.specs.Refusing.{replicas_up}
use Rattle.world_settle.specs.Settling.{candidates, with_all}
use Rattle.world_settle.proofs.candidates.replicas_up.Given as goal

-- with the candidates that are left the set has all replicas that are up
abbrev pub invariant-loop-replica : goal.invariant-loop-replica
invariant-loop-replica l = with_all l.set (candidates l.world l.set) ≡ replicas_up l.world

abbrev pub decreases-loop-replica : goal.decreases-loop-replica
decreases-loop-replica l = length (candidates l.world l.set)
