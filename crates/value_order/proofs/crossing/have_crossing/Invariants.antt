use Rattle.std.proofs.Common.{◌≤◌, length}
use Rattle.value_order.proofs.Crosses.{IsScanned}
use Rattle.value_order.proofs.crossing.have_crossing.Given as goal

abbrev pub invariant-calls : goal.invariant-calls
invariant-calls l = record {
  within : l.i ≤ length l.part;
  scanned : IsScanned l.part l.sources l.zones l.i l.nearest;
}

abbrev pub decreases-calls : goal.decreases-calls
decreases-calls l = l.i
