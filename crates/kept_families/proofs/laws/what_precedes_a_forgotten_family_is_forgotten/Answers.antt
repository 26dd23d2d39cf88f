use Rattle.value_order.specs.Tables.{ReadsBy}
use Rattle.kept_families.proofs.Forgetting.{precedes_forgotten}
use Rattle.kept_families.proofs.laws.what_precedes_a_forgotten_family_is_forgotten.Goals as goal

pub returns : goal.returns
returns c part source row u v sequence sound free = precedes_forgotten part (ReadsBy part source) sequence sound row free u v
