use Rattle.std.proofs.Common.{ap, ◌∙◌}
use Rattle.std.specs.FinSet as finite
use Rattle.quorum.specs.Quorums.{votes_of}
use Rattle.quorum.specs.Sets.{Replicas}
use Rattle.file_format.proofs.Votes.{alone}
use Rattle.file_format.proofs.texts.vote_of.Goals as goal

pub returns : goal.returns
returns c =
    let votes = c.args.quorums.now.votes in
    c.votes.ensures ∙ ap (votes_of votes) (c.add.ensures ∙ ap (λ (s : Replicas). finite.insert s c.args.replica) c.empty-alone.ensures)
    ∙ alone votes c.args.replica c.requires
