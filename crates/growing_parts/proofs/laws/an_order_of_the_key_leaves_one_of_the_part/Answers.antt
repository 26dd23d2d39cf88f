use Rattle.growing_parts.proofs.Orders.{order_less, order_of_part}
use Rattle.growing_parts.proofs.laws.an_order_of_the_key_leaves_one_of_the_part.Goals as goal

pub returns : goal.returns
returns c rows key gone whole part formed are is less lin = (
  order_less rows formed key gone whole part is less are lin.0 lin.1,
  order_of_part rows formed key gone whole part is less are lin.0 lin.1,
)
