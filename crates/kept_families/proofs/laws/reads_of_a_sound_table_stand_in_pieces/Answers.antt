use Rattle.value_order.specs.Tables.{ReadsBy}
use Rattle.kept_families.proofs.Pieces.{sound_pieces}
use Rattle.kept_families.proofs.laws.reads_of_a_sound_table_stand_in_pieces.Goals as goal

pub returns : goal.returns
returns c part source = sound_pieces part (ReadsBy part source)
