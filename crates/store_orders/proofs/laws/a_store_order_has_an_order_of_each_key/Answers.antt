use Rattle.store_orders.proofs.KeyTurns.{order_of_key}
use Rattle.store_orders.proofs.laws.a_store_order_has_an_order_of_each_key.Goals as goal

pub returns : goal.returns
returns c rows order key part store is = order_of_key rows order store key part is
