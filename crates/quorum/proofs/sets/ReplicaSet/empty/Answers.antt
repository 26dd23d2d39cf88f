use Rattle.quorum.proofs.BitLemmas.{set_of_bits-none}
use Rattle.quorum.proofs.sets.ReplicaSet.empty.Goals as goal

pub returns : goal.returns
returns c = set_of_bits-none 15
