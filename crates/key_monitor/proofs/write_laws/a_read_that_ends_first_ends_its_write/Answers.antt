use Rattle.key_monitor.proofs.Keeping.{first_read_writes}
use Rattle.key_monitor.proofs.write_laws.a_read_that_ends_first_ends_its_write.Goals as goal

pub returns : goal.returns
returns c before after source later row place value read write known new writes now kept j a answered are none one entry of at unended
    has keeps = first_read_writes before after source row place read value j a answered known are write none one later entry writes of
    kept at unended new has now keeps
