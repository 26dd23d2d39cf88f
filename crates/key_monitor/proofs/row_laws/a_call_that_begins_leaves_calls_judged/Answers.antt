use Rattle.key_monitor.proofs.Judging.{still_judged}
use Rattle.key_monitor.proofs.row_laws.a_call_that_begins_leaves_calls_judged.Goals as goal

pub returns : goal.returns
returns c before after source row place call j b = still_judged before after source row place j b.goes b.last
