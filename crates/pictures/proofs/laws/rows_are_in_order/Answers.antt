use Rattle.pictures.proofs.Rows.{rows_in_order}
use Rattle.pictures.proofs.laws.rows_are_in_order.Goals as goal

pub returns : goal.returns
returns c = rows_in_order
