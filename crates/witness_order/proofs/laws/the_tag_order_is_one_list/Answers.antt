use Rattle.witness_order.proofs.OneList.{one_tag_order}
use Rattle.witness_order.proofs.laws.the_tag_order_is_one_list.Goals as goal

pub returns : goal.returns
returns c = one_tag_order
