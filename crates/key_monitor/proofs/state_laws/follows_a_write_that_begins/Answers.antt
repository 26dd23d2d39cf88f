use Rattle.key_monitor.proofs.Following.{write_begins}
use Rattle.key_monitor.proofs.state_laws.follows_a_write_that_begins.Goals as goal

pub returns : goal.returns
returns c before after source row place call value state writes f b left wrote has = write_begins before after source row place call
    state f b left value wrote writes has
