use Rattle.key_monitor.proofs.Judging.{write_zones}
use Rattle.key_monitor.proofs.row_laws.a_write_that_ends_first_has_a_zone.Goals as goal

pub returns : goal.returns
returns c before after source row place call w known new j a is there number unended are has floor = write_zones before after source row
    place call j a is w there number unended known new are has floor
