use Rattle.key_monitor.proofs.Keeping.{write_begun_writes}
use Rattle.key_monitor.proofs.write_laws.a_write_that_begins_is_kept.Goals as goal

pub returns : goal.returns
returns c before after source row place call value known writes now j b wrote of has = write_begun_writes before after source row place
    call j b known writes of value wrote now has
