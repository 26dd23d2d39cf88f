use Rattle.split_rows.proofs.Keys.{in_one_piece}
use Rattle.split_rows.proofs.laws.a_key_is_in_one_piece.Goals as goal

pub returns : goal.returns
returns c parts rows keys number pieces key place some formed are begins = in_one_piece parts rows keys number pieces some formed are key place
    begins
