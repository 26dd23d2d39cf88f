use Rattle.value_order.specs.Tables.{ReadsBy}
use Rattle.kept_families.proofs.Bounds.{under_way}
use Rattle.kept_families.proofs.laws.kept_settled_families_were_under_way_at_once.Goals as goal

pub returns : goal.returns
returns c part source row place u sequence sound latest = under_way part (ReadsBy part source) sequence sound row place latest u
