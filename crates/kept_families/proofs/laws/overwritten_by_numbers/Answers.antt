use Rattle.value_order.specs.Tables.{ReadsBy}
use Rattle.kept_families.proofs.Numbers.{overwritten_from, overwritten_to}
use Rattle.kept_families.proofs.laws.overwritten_by_numbers.Goals as goal

pub returns : goal.returns
returns c part source row place u w end_u end_w last apart of_u of_w begins =
    (overwritten_to part (ReadsBy part source) row u w place end_u end_w last of_u of_w begins, λ h. overwritten_from part (ReadsBy part source) row u w place end_u end_w last apart of_u of_w begins h.0 h.1)
