use Rattle.key_monitor.proofs.Judging.{later_read_zones}
use Rattle.key_monitor.proofs.row_laws.a_later_read_raises_the_zone.Goals as goal

pub returns : goal.returns
returns c before after source later row place end last value read write known new j a answered are none one entry z has floor =
    later_read_zones before after source row place read value j a answered known are write none one later entry end last z new has floor
