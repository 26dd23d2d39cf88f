use Rattle.std.proofs.Common.{rules}
use Rattle.fault_details.proofs.Votes.{few}
use Rattle.fault_details.proofs.demands.together.Goals as goal

pub loop-vote-init : goal.loop-vote-init
loop-vote-init c = record { value = search rules; few = few c.args.votes.now c.requires }
