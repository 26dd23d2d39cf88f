use Rattle.value_order.specs.Tables.{ReadsBy}
use Rattle.kept_families.proofs.Forgetting.{later_forgotten_by}
use Rattle.kept_families.proofs.laws.what_is_forgotten_stays_so.Goals as goal

pub returns : goal.returns
returns c part source = later_forgotten_by part (ReadsBy part source)
