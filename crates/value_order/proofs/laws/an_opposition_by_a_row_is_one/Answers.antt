use Rattle.value_order.specs.Tables.{ReadsBy}
use Rattle.value_order.proofs.ZoneRows.{opposed_by_row}
use Rattle.value_order.proofs.laws.an_opposition_by_a_row_is_one.Goals as goal

pub returns : goal.returns
returns c part source row x y = opposed_by_row part (ReadsBy part source) row x y
