use Rattle.std.proofs.Common.{rules}
use Rattle.quorum.proofs.BitLemmas.{bits-from_view}
use Rattle.quorum.proofs.sets.ReplicaSetPartialEq.eq.Goals as goal

pub returns : goal.returns
returns c = search (rules, bits-from_view)
