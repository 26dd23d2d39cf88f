use Rattle.key_monitor.proofs.Opens.{read_opens}
use Rattle.key_monitor.proofs.read_laws.a_read_that_begins_is_open.Goals as goal

pub returns : goal.returns
returns c before after row place op opens new call are left begun b reads has = read_opens before after row place opens are left call b
    begun reads op new has
