use Rattle.value_order.proofs.Refutations.{opposed_refutes}
use Rattle.value_order.proofs.laws.opposed_families_refute.Goals as goal

pub returns : goal.returns
returns c = opposed_refutes
