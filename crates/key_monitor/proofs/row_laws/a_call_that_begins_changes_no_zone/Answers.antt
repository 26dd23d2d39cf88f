use Rattle.key_monitor.proofs.Judging.{still_zones}
use Rattle.key_monitor.proofs.row_laws.a_call_that_begins_changes_no_zone.Goals as goal

pub returns : goal.returns
returns c before after source row place call known j b are = still_zones before after source row place j b.goes b.last known are
