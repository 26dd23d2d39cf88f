use Rattle.key_monitor.proofs.Judging.{still_none}
use Rattle.key_monitor.proofs.row_laws.a_call_that_begins_forgets_none.Goals as goal

pub returns : goal.returns
returns c before after source row place call known j b opens none = still_none before after source row place j b.goes b.last opens known
    none
