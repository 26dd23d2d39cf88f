use Rattle.quorum.proofs.Meet.{majorities_share}
use Rattle.quorum.proofs.laws.majorities_share_a_replica.Goals as goal

pub returns : goal.returns
returns c = majorities_share
