use Rattle.value_order.specs.Ended.{IsGreatestIndex, AreSlowest}
use Rattle.value_order.proofs.StaleTables.{AreFound, ArePassed}
use Rattle.value_order.proofs.stale.overwriters.Given as goal

abbrev pub invariant-loop-i : goal.invariant-loop-i
invariant-loop-i l = record {
  passed : ArePassed l.part l.keys.items l.before.count l.i;
  latest : IsGreatestIndex l.keys.items l.before.count l.before.latest;
  slowest : AreSlowest l.part l.classes l.i l.slowest.items;
  found : AreFound l.part l.i l.found.items;
}
