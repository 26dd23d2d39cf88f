use Rattle.value_order.proofs.Decided.{fault_refutes}
use Rattle.value_order.proofs.laws.a_fault_refutes.Goals as goal

pub returns : goal.returns
returns c part fault sequence = fault_refutes part sequence fault
