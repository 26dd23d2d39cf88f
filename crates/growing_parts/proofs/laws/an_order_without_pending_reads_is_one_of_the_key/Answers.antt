use Rattle.growing_parts.proofs.Orders.{order_of_whole}
use Rattle.growing_parts.proofs.laws.an_order_without_pending_reads_is_one_of_the_key.Goals as goal

pub returns : goal.returns
returns c rows key gone whole part formed is less pending lin = (
  lin.0,
  order_of_whole rows formed key gone whole part is less pending lin.0 lin.1,
)
