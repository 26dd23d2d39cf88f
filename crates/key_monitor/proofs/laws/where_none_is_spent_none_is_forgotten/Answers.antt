use Rattle.key_monitor.proofs.Meaning.{none_forgotten}
use Rattle.key_monitor.proofs.laws.where_none_is_spent_none_is_forgotten.Goals as goal

pub returns : goal.returns
returns c part source row place known sequence sound last_row own free are opens none = none_forgotten part source row sequence sound
    last_row own free known are place opens none
