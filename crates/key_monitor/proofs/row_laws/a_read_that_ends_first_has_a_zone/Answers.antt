use Rattle.key_monitor.proofs.Judging.{first_read_zones}
use Rattle.key_monitor.proofs.row_laws.a_read_that_ends_first_has_a_zone.Goals as goal

pub returns : goal.returns
returns c before after source later row place value read write known new j a answered are none one entry unended has floor =
    first_read_zones before after source row place read value j a answered known are write none one later entry unended new has floor
