use Rattle.key_monitor.proofs.Following.{forgotten_write_ends}
use Rattle.key_monitor.proofs.state_laws.follows_a_forgotten_write.Goals as goal

pub returns : goal.returns
returns c before after source row place call w state f a left is there number is_w gone = forgotten_write_ends before after source row
    place call w state f a left is there number is_w gone
