use Rattle.key_monitor.proofs.Meaning.{floor_low}
use Rattle.key_monitor.proofs.laws.the_floor_is_low.Goals as goal

pub returns : goal.returns
returns c part source row end last known u sequence sound free are z fresh = floor_low part source row sequence sound free known are u
    end last z fresh
