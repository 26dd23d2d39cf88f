use Rattle.key_monitor.proofs.AllRead.{still_all_read}
use Rattle.key_monitor.proofs.Judging.{extends_same}
use Rattle.key_monitor.proofs.state_laws.a_call_that_begins_leaves_all_read.Goals as goal

pub returns : goal.returns
returns c before after source row place call j b all = still_all_read before after source source row place j b.goes (extends_same before
    after source row place j b.goes) all b.last
