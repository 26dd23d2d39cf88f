use Rattle.split_rows.specs.Pieces.{IsKeyOf}
use Rattle.split_rows.proofs.OneKeys.{piece_by}
use Rattle.split_rows.proofs.OneList.{one_list}
use Rattle.split_rows.proofs.laws.a_piece_is_one_list.Goals as goal

pub returns : goal.returns
returns c parts rows keys later number other pieces others p formed are they =
    one_list rows formed (IsKeyOf parts later p) number other (pieces p) (others p)
    (piece_by parts rows keys later are.seen they.seen p number (pieces p) (are.each p)) (they.each p)
