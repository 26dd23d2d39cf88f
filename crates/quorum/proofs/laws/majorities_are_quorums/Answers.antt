use Rattle.quorum.proofs.Majorities.{lawful}
use Rattle.quorum.proofs.Votes.{majority_ask, majority_put}
use Rattle.quorum.proofs.laws.majorities_are_quorums.Goals as goal

pub returns : goal.returns
returns c = record { lawful = lawful; ask = majority_ask; put = majority_put }
