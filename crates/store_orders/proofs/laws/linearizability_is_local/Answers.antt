use Rattle.store_orders.proofs.Exists.{of_orders, orders_of}
use Rattle.store_orders.proofs.KeyTurns.{order_of_key}
use Rattle.store_orders.proofs.laws.linearizability_is_local.Goals as goal

pub returns : goal.returns
returns c rows parts formed of = (
  λ store key part there. let turn = order_of_key rows store.0 store.1 key part (of.each key part there) in (turn.0, turn.2),
  λ each.
      let orders = orders_of parts each in
      of_orders rows formed parts of (c.a_part_is_one_list.ensures rows) orders.0 orders.1,
)
