use Rattle.key_monitor.proofs.Meaning.{none_overwrites_too}
use Rattle.key_monitor.proofs.laws.zones_have_all_overwriters.Goals as goal

pub returns : goal.returns
returns c part source row place end last known u x sequence sound last_row own free are z fresh none = none_overwrites_too part source
    row sequence sound last_row own free known are u x place end last z fresh none
