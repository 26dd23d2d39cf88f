use Rattle.value_order.specs.Tables.{ReadsBy}
use Rattle.kept_families.proofs.Forgetting.{forgotten_read_opposes}
use Rattle.kept_families.proofs.laws.a_later_read_of_a_forgotten_write_opposes.Goals as goal

pub returns : goal.returns
returns c part source row later w u read sound = forgotten_read_opposes part (ReadsBy part source) sound row later w u read
