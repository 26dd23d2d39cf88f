use Rattle.std.proofs.Common.{◌≤◌, take}
use Rattle.value_order.specs.Faults.{IsStale}
use Rattle.value_order.specs.Stales.{IsCount}
use Rattle.value_order.proofs.counts.stale_reads.Given as goal

abbrev pub invariant-loop-i : goal.invariant-loop-i
invariant-loop-i l = record {
  most : l.count ≤ l.i;
  counted : IsCount (IsStale l.part) (take l.i l.part) l.count;
}
