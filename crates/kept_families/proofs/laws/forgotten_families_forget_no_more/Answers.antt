use Rattle.value_order.specs.Tables.{ReadsBy}
use Rattle.kept_families.proofs.Forgetting.{forgotten_by_forgotten}
use Rattle.kept_families.proofs.laws.forgotten_families_forget_no_more.Goals as goal

pub returns : goal.returns
returns c part source row later w v sequence sound le free = forgotten_by_forgotten part (ReadsBy part source) sequence sound row later le free w v
