use Rattle.store_orders.proofs.KeyTurns.{by_key, from_keys}
use Rattle.store_orders.proofs.laws.a_store_order_is_ordered_by_key.Goals as goal

pub returns : goal.returns
returns c rows parts calls order of are = (by_key rows calls are order, from_keys rows calls are order parts of)
