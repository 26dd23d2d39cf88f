use Rattle.key_monitor.proofs.Keeping.{later_read_writes}
use Rattle.key_monitor.proofs.write_laws.a_later_read_changes_no_write.Goals as goal

pub returns : goal.returns
returns c before after source later row place end last value read write known new writes j a answered are none one entry of ended has =
    later_read_writes before after source row place read value j a answered known are write none one later entry writes of end last ended
    new has
