use Rattle.value_order.proofs.Refutations.{unwritten_refutes}
use Rattle.value_order.proofs.laws.an_unwritten_answer_refutes.Goals as goal

pub returns : goal.returns
returns c = unwritten_refutes
