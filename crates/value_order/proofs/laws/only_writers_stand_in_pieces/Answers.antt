use Rattle.value_order.proofs.Places.{only_pieces}
use Rattle.value_order.proofs.laws.only_writers_stand_in_pieces.Goals as goal

pub returns : goal.returns
returns c = only_pieces
