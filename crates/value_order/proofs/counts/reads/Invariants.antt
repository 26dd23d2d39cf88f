use Rattle.std.proofs.Common.{◌≤◌, take}
use Rattle.value_order.specs.Stales.{IsAnsweredRead, IsCount}
use Rattle.value_order.proofs.counts.reads.Given as goal

abbrev pub invariant-loop-i : goal.invariant-loop-i
invariant-loop-i l = record {
  most : l.count ≤ l.i;
  counted : IsCount IsAnsweredRead (take l.i l.part) l.count;
}
