use Rattle.key_monitor.proofs.Judging.{ended_write_zones}
use Rattle.key_monitor.proofs.row_laws.a_write_of_an_ended_family_changes_no_zone.Goals as goal

pub returns : goal.returns
returns c before after source row place end call w known j a is there number ended are = ended_write_zones before after source row place
    call j a is w end there number ended known are
