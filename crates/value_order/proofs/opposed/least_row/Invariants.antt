use Rattle.std.proofs.Common.{◌≤◌, ◌-◌}
use Rattle.value_order.specs.Rows.{HasOpposedBy, NoneOpposedBefore}
use Rattle.value_order.proofs.opposed.least_row.Given as goal

abbrev pub invariant-halves : goal.invariant-halves
invariant-halves l = record {
  order : l.low ≤ l.high;
  opposed : HasOpposedBy l.part l.high;
  least : NoneOpposedBefore l.part l.low;
}

abbrev pub decreases-halves : goal.decreases-halves
decreases-halves l = l.high - l.low
