use Rattle.key_monitor.proofs.Meaning.{spent_forgotten}
use Rattle.key_monitor.proofs.laws.what_is_spent_is_forgotten.Goals as goal

pub returns : goal.returns
returns c part source row place end last known u sequence sound free are opens z spent = spent_forgotten part source row sequence sound
    free known are u place end last opens z spent
