use Rattle.key_monitor.proofs.Opens.{read_closes}
use Rattle.key_monitor.proofs.read_laws.an_answered_read_is_open_no_more.Goals as goal

pub returns : goal.returns
returns c before after row place opens new call are left begun a lacks = read_closes before after row place opens are left call a begun
    new lacks
