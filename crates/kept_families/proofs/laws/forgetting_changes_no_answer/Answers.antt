use Rattle.value_order.specs.Tables.{ReadsBy}
use Rattle.kept_families.proofs.Forgetting.{opposed_since, opposed_from}
use Rattle.kept_families.proofs.laws.forgetting_changes_no_answer.Goals as goal

pub returns : goal.returns
returns c part source row later kept sequence sound le are free = (opposed_since part (ReadsBy part source) sequence sound row later le kept are free, opposed_from part (ReadsBy part source) sequence sound row later le)
