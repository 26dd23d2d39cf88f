use Rattle.witness_order.proofs.Insertion.{tag_order_exists}
use Rattle.witness_order.proofs.laws.noted_calls_have_a_tag_order.Goals as goal

pub returns : goal.returns
returns c = tag_order_exists
