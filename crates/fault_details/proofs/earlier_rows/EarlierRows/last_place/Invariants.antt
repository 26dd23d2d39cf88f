use Rattle.std.proofs.Common.{◌≡◌, ◌≤◌, length}
use Rattle.fault_details.specs.RowDetails.{last_before, last_place}
use Rattle.fault_details.proofs.earlier_rows.EarlierRows.last_place.Given as goal

abbrev pub invariant-loop-count : goal.invariant-loop-count
invariant-loop-count l = record {
  same : last_place l.sought l.self.history.now.rows ≡ last_before l.sought l.self.history.now.rows l.count;
  most : l.count ≤ length l.self.history.now.rows;
}

abbrev pub decreases-loop-count : goal.decreases-loop-count
decreases-loop-count l = l.count
