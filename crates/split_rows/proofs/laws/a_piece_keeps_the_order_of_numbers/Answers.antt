use Rattle.split_rows.specs.Pieces.{IsKeyOf}
use Rattle.split_rows.proofs.PieceRows.{same_order}
use Rattle.split_rows.proofs.laws.a_piece_keeps_the_order_of_numbers.Goals as goal

pub returns : goal.returns
returns c parts rows keys number pieces p a b formed are of_a of_b = same_order rows formed (IsKeyOf parts keys p) number (pieces p)
    (are.each p) a b of_a of_b
