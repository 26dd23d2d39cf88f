use Rattle.kept_families.proofs.Pieces.{opposed_refutes}
use Rattle.kept_families.proofs.laws.opposed_families_of_a_sound_table_refute.Goals as goal

pub returns : goal.returns
returns c = opposed_refutes
