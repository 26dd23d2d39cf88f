use Rattle.std.proofs.Common.{take}
use Rattle.witness_order.specs.RecordOrders.{AreOrdersOf}
use Rattle.witness_order.proofs.record_orders.key_orders.Given as goal

abbrev pub invariant-loop-place : goal.invariant-loop-place
invariant-loop-place l = AreOrdersOf (take l.place l.parts.entries) l.orders.items
