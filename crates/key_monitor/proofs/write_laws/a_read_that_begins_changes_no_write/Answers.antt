use Rattle.key_monitor.proofs.Keeping.{read_begun_writes}
use Rattle.key_monitor.proofs.write_laws.a_read_that_begins_changes_no_write.Goals as goal

pub returns : goal.returns
returns c before after source row place call known writes j b read of = read_begun_writes before after source row place call j b known
    writes of read
