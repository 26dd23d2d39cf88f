use Rattle.value_order.specs.Tables.{ReadsBy}
use Rattle.kept_families.proofs.Numbers.{overwritten_from_forgotten, forgotten_from_overwritten}
use Rattle.kept_families.proofs.laws.forgotten_is_overwritten_before_the_first_open_read.Goals as goal

pub returns : goal.returns
returns c part source row place u w is = (overwritten_from_forgotten part (ReadsBy part source) row u w place is, forgotten_from_overwritten part (ReadsBy part source) row u w place is)
