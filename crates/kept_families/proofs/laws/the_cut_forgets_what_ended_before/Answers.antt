use Rattle.value_order.specs.Tables.{ReadsBy}
use Rattle.kept_families.proofs.Numbers.{cut_of_forgotten, forgotten_by_cut}
use Rattle.kept_families.proofs.laws.the_cut_forgets_what_ended_before.Goals as goal

pub returns : goal.returns
returns c part source row cut end u w is of_u = (cut_of_forgotten part (ReadsBy part source) row u w cut end is of_u, forgotten_by_cut part (ReadsBy part source) row u w cut end is of_u)
