use Rattle.std.proofs.Common.{sym, subst, List}
use Rattle.recorder.specs.declared.order.KeyOrder.{KeyOrder}
use Rattle.parallel_keys.proofs.Fronts.{front_more}
use Rattle.parallel_keys.specs.KeysToCheck.{IsOrderTable}
use Rattle.parallel_keys.proofs.collect_keys.OrderTable.new.Goals as goal

pub loop-one-preserved : goal.loop-one-preserved
loop-one-preserved c =
    subst (λ (l : List KeyOrder). IsOrderTable c.args.numbers.now l c.add.new.self) (sym (front_more c.args.orders.now c.loop-one.one-index c.one-item.result c.loop-one-test.true c.one-item.is))
    (c.in_ok-add.ensures _ c.loop-one.invariant)
