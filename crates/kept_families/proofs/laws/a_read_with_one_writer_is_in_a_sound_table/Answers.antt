use Rattle.kept_families.proofs.Instances.{one_entry}
use Rattle.kept_families.proofs.laws.a_read_with_one_writer_is_in_a_sound_table.Goals as goal

pub returns : goal.returns
returns c = one_entry
