use Rattle.value_explanations.proofs.Reasons.{refutes}
use Rattle.value_explanations.proofs.laws.a_value_reason_refutes.Goals as goal

pub returns : goal.returns
returns c part fault reason sequence is = refutes part sequence reason is.1
