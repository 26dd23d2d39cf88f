use Rattle.key_monitor.proofs.Keeping.{ended_write_writes}
use Rattle.key_monitor.proofs.write_laws.a_write_of_an_ended_family_changes_no_write.Goals as goal

pub returns : goal.returns
returns c before after source row place end call w known writes j a is there number ended of = ended_write_writes before after source row
    place call j a known writes of is w there number end ended
