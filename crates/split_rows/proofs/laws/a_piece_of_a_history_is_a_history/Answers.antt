use Rattle.split_rows.specs.Pieces.{IsKeyOf}
use Rattle.split_rows.proofs.Formed.{formed_piece}
use Rattle.split_rows.proofs.laws.a_piece_of_a_history_is_a_history.Goals as goal

pub returns : goal.returns
returns c parts rows keys number pieces p formed are = formed_piece rows formed (IsKeyOf parts keys p) number (pieces p) (are.each p)
