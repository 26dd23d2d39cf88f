use Rattle.value_order.specs.Tables.{ReadsBy}
use Rattle.kept_families.proofs.Numbers.{forgotten_from, forgotten_to}
use Rattle.kept_families.proofs.laws.forgotten_by_numbers.Goals as goal

pub returns : goal.returns
returns c part source row place u w end_u end_w last apart is of_u of_w begins =
    (forgotten_to part (ReadsBy part source) row u w place end_u end_w last is of_u of_w begins, forgotten_from part (ReadsBy part source) row u w place end_u end_w last apart is of_u of_w begins)
