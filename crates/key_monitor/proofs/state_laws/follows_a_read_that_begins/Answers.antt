use Rattle.key_monitor.proofs.Following.{read_begins}
use Rattle.key_monitor.proofs.state_laws.follows_a_read_that_begins.Goals as goal

pub returns : goal.returns
returns c before after source row place op call state opens f b left reads has = read_begins before after source row place call state f b
    left reads op opens has
