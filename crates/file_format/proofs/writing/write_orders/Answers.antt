use Rattle.std.proofs.Common.{◌++◌, sym, ◌∙◌, arith}
use Rattle.file_format.specs.Ranges.{IsOrderInRange}
use Rattle.file_format.specs.Texts.{order_text, orders_text}
use Rattle.counted_devices.proofs.Leaving.{Leaves-next, AppendsPrefix-next, none_ahead}
use Rattle.file_format.proofs.EachElement.{on_ok, before_more, before_all}
use Rattle.file_format.proofs.WrittenOrders.{orders_text_of}
use Rattle.file_format.proofs.WritingOn.{breaks_at_once, breaks_with, ended}
use Rattle.file_format.proofs.writing.write_orders.Goals as goal

pub returns-in_err-append_header-clause-broken : goal.returns-in_err-append_header-clause-broken
returns-in_err-append_header-clause-broken g c =
    breaks_at_once g.W.Write.contents g.W.Counted.failures c.from_residual.result c.args.writer.now _ c.from_residual.ensures.1

pub returns-in_err-write_order-clause-broken : goal.returns-in_err-write_order-clause-broken
returns-in_err-write_order-clause-broken g c =
    let at = c.loop-order in
    let contents = g.W.Write.contents in
    breaks_with contents g.W.Counted.failures c.args.writer.now at.writer c.write_order.new.writer (orders_text c.args.orders.now)
    at.invariant.same c.from_residual-in_err-write_order.result (at.batch.items ++ order_text c.order-item.result) _
    (λ begun. AppendsPrefix-next order_text (contents c.args.writer.now) (contents at.writer) (contents c.write_order.new.writer)
    (orders_text c.args.orders.now) at.batch.items c.args.orders.now at.order-index c.order-item.result (omega arith) c.order-item.is
    at.invariant.left begun)
    c.from_residual-in_err-write_order.ensures.1 c.in_err-write_order.ensures.broken

pub loop-order-preserved : goal.loop-order-preserved
loop-order-preserved g c =
    let at = c.loop-order in
    let contents = g.W.Write.contents in
    record {
      left = Leaves-next order_text (contents c.args.writer.now) (contents at.writer) (contents c.write_order.new.writer)
          (orders_text c.args.orders.now) at.batch.items c.args.orders.now at.order-index c.order-item.result
          c.write_order.new.batch.items (omega arith) c.order-item.is at.invariant.left c.in_ok-write_order.ensures.sent.sent;
      range = before_more IsOrderInRange c.args.orders.now at.order-index c.order-item.result c.order-item.is
          c.in_ok-write_order.ensures.range at.invariant.range;
      same = c.in_ok-write_order.ensures.sent.counted ∙ at.invariant.same;
    }

pub returns : goal.returns
returns g c =
    let at = c.loop-order in
    let sent = c.write_text in
    let orders = c.args.orders.now in
    let ranges = before_all IsOrderInRange orders at.order-index (omega arith) at.invariant.range in
    let out = ended g.W.Write.contents g.W.Counted.failures c.args.writer.now at.writer sent.new.writer (orders_text orders)
    at.invariant.same sent.result _ c.as_slice.result.now at.invariant.left
    (none_ahead order_text at.batch.items orders at.order-index (omega arith) ∙ sym c.as_slice.ensures.value)
    sent.ensures.written sent.ensures.counted sent.ensures.begun sent.ensures.device in
    record { written = out.0; broken = out.1; read = on_ok sent.result (λ distinct few. orders_text_of orders ranges distinct few) }
