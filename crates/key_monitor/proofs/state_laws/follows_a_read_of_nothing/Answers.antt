use Rattle.key_monitor.proofs.Following.{read_of_nothing}
use Rattle.key_monitor.proofs.state_laws.follows_a_read_of_nothing.Goals as goal

pub returns : goal.returns
returns c before after source row place read state opens k a left closes nothing time = read_of_nothing before after source row place
    read state k a left opens closes nothing time
