-- Both files were read: the check of their keys was sent.
use Rattle.std.proofs.Common.{List, inr, subst, sym}
use Rattle.recorder.specs.declared.order.KeyOrder.{KeyOrder}
use Rattle.parallel_keys.specs.CheckedKeys.{AreDistinct}
use Rattle.cli.proofs.EachKey.{distinct}
use Rattle.cli.proofs.Endings.{concluded}
use Rattle.cli.proofs.Reading.{files_checked}
use Rattle.cli.proofs.check.check_command.Goals as goal

pub check_outcome-made-requires : goal.check_outcome-made-requires
check_outcome-made-requires g c =
    let read = c.in-Ok-orders_in.ensures.read.fact.1 in
    subst (λ (l : List KeyOrder). AreDistinct l) (sym c.as_slice.ensures.value) (distinct read.items c.in-Ok-orders_in.orders.items read.made)

pub returns : goal.returns
returns g c =
    concluded _ _ _ _ _ _ c.check_outcome-made.result (rw c.as_slice.ensures.value at c.check_outcome-made.ensures.made) c.check_outcome-made.ensures.stops
    (files_checked c.args.form _ _ c.in-Ok.histories c.in-Ok-orders_in.orders.items c.in-Ok.ensures.read c.in-Ok-orders_in.ensures.read) (λ why is. inr is) c.conclude.result c.conclude.ensures
