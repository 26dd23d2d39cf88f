use Rattle.std.proofs.Common.{◌≡◌, ◌++◌, drop}
use Rattle.std.specs.List.{flat_map}
use Rattle.counted_devices.specs.Sendings.{Leaves}
use Rattle.file_format.specs.Ranges.{IsOrderInRange}
use Rattle.file_format.specs.Texts.{order_text, orders_text}
use Rattle.file_format.proofs.EachElement.{AllBefore}
use Rattle.file_format.proofs.writing.write_orders.Given as goal

abbrev pub invariant-loop-order : goal.invariant-loop-order
invariant-loop-order g l = record {
  left : Leaves (g.W.Write.contents l.fn.writer) (g.W.Write.contents l.writer) (orders_text l.orders) (l.batch.items
      ++ flat_map order_text (drop l.order-index l.orders));
  range : AllBefore IsOrderInRange l.orders l.order-index;
  same : (g.W.Counted.failures l.writer) ≡ (g.W.Counted.failures l.fn.writer);
}
