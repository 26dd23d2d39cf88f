use Rattle.store_orders.proofs.KeyTurns.{IsSequence-calls}
use Rattle.store_orders.proofs.laws.all_calls_are_a_sequence.Goals as goal

pub returns : goal.returns
returns c rows calls formed are = IsSequence-calls rows calls are formed
