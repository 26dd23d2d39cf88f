use Rattle.value_order.proofs.Refutations.{early_refutes}
use Rattle.value_order.proofs.laws.an_early_answer_refutes.Goals as goal

pub returns : goal.returns
returns c = early_refutes
