use Rattle.key_monitor.proofs.Opens.{write_opens}
use Rattle.key_monitor.proofs.read_laws.a_write_that_begins_opens_none.Goals as goal

pub returns : goal.returns
returns c before after row place opens call are left begun b writes = write_opens before after row place opens are left call b begun writes
