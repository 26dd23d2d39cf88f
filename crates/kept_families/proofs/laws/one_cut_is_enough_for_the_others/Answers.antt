use Rattle.value_order.specs.Tables.{ReadsBy}
use Rattle.kept_families.proofs.Numbers.{cut_for}
use Rattle.kept_families.proofs.laws.one_cut_is_enough_for_the_others.Goals as goal

pub returns : goal.returns
returns c part source row cut u w = cut_for part (ReadsBy part source) row u w cut
