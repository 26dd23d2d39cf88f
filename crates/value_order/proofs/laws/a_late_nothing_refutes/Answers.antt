use Rattle.value_order.proofs.Refutations.{late_refutes}
use Rattle.value_order.proofs.laws.a_late_nothing_refutes.Goals as goal

pub returns : goal.returns
returns c = late_refutes
