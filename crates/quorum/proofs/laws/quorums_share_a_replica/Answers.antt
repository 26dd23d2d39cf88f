use Rattle.quorum.proofs.SharedReplicas.{quorums_share}
use Rattle.quorum.proofs.laws.quorums_share_a_replica.Goals as goal

pub returns : goal.returns
returns c = quorums_share
