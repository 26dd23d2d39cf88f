use Rattle.witness_order.proofs.record_orders.justified_orders.Goals as goal

pub key_orders-requires : goal.key_orders-requires
key_orders-requires c = λ key part there. c.requires key part (c.in_ok-parts.ensures.each key part there)
