use Rattle.key_monitor.proofs.Meaning.{without}
use Rattle.key_monitor.proofs.laws.a_forgotten_zone_may_go.Goals as goal

pub returns : goal.returns
returns c part source row end last known new u sequence sound own free are z forgotten lacks floor = without part source row sequence
    sound own known are u end last z forgotten new lacks floor
