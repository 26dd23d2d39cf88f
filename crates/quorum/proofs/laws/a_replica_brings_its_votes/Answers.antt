use Rattle.quorum.proofs.MoreVotes.{votes_of-insert}
use Rattle.quorum.proofs.laws.a_replica_brings_its_votes.Goals as goal

pub returns : goal.returns
returns c = votes_of-insert
