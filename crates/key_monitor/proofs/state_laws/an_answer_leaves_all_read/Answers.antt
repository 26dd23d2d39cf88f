use Rattle.key_monitor.proofs.AllRead.{answered_all_read}
use Rattle.key_monitor.proofs.state_laws.an_answer_leaves_all_read.Goals as goal

pub returns : goal.returns
returns c before after source later row place call j a extends all own = answered_all_read before after source later row place j a.goes
    extends all call a own
