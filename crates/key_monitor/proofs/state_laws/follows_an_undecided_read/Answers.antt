use Rattle.key_monitor.proofs.Following.{undecided_read}
use Rattle.key_monitor.proofs.state_laws.follows_an_undecided_read.Goals as goal

pub returns : goal.returns
returns c before after source row place read value state opens k a left closes answered = undecided_read before after source row place
    read state k a left opens closes value answered
