use Rattle.key_monitor.proofs.Opens.{write_closes}
use Rattle.key_monitor.proofs.read_laws.an_answered_write_closes_none.Goals as goal

pub returns : goal.returns
returns c before after row place opens call are left begun a writes = write_closes before after row place opens are left call a begun writes
