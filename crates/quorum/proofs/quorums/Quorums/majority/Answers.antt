use Rattle.quorum.proofs.Majorities.{majority_stored, majority_view}
use Rattle.quorum.proofs.quorums.Quorums.majority.Goals as goal

pub invariant_of-result : goal.invariant_of-result
invariant_of-result c =
    majority_stored c.args.replicas c.from-replicas.result c.pad_votes.result c.requires.least c.requires.most c.from-replicas.ensures c.pad_votes.ensures

pub returns : goal.returns
returns c =
    majority_view c.args.replicas c.from-replicas.result c.pad_votes.result c.requires.least c.requires.most c.from-replicas.ensures c.pad_votes.ensures
