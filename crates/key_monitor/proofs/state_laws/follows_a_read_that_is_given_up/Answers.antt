use Rattle.key_monitor.proofs.Following.{given_up}
use Rattle.key_monitor.proofs.state_laws.follows_a_read_that_is_given_up.Goals as goal

pub returns : goal.returns
returns c before after source row read state opens f l lacks = given_up before after source row read state f l opens lacks
