use Rattle.value_order.specs.Tables.{ReadsBy}
use Rattle.value_order.proofs.ZoneRows.{later_opposed}
use Rattle.value_order.proofs.laws.an_opposition_lasts.Goals as goal

pub returns : goal.returns
returns c part source row later x y = later_opposed part (ReadsBy part source) row later x y
