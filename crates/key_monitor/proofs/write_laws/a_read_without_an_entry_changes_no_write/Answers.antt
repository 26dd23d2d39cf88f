use Rattle.key_monitor.proofs.Keeping.{read_writes}
use Rattle.key_monitor.proofs.write_laws.a_read_without_an_entry_changes_no_write.Goals as goal

pub returns : goal.returns
returns c before after source row place read known writes j a reads of = read_writes before after source row place read j a known writes
    of reads
