use Rattle.std.proofs.Common.{rules}
use Rattle.quorum.proofs.sets.ReplicaSet.is_majority.Goals as goal

pub returns : goal.returns
returns c = search rules
