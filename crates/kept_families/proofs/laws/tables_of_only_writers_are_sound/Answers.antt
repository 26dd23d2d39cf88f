use Rattle.kept_families.proofs.Instances.{only_sound}
use Rattle.kept_families.proofs.laws.tables_of_only_writers_are_sound.Goals as goal

pub returns : goal.returns
returns c = only_sound
