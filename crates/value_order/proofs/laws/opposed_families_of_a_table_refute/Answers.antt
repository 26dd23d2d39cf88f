use Rattle.value_order.proofs.Refutations.{table_refutes}
use Rattle.value_order.proofs.laws.opposed_families_of_a_table_refute.Goals as goal

pub returns : goal.returns
returns c = table_refutes
