use Rattle.value_order.proofs.Refutations.{stale_refutes}
use Rattle.value_order.proofs.laws.a_stale_read_refutes.Goals as goal

pub returns : goal.returns
returns c = stale_refutes
