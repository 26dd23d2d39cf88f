use Rattle.kept_families.proofs.GoingOn.{still_sound}
use Rattle.kept_families.proofs.laws.sound_tables_stay_sound.Goals as goal

pub returns : goal.returns
returns c before after source later row in_before in_after goes entries sound extends = still_sound row before after source later in_before in_after goes entries sound extends
