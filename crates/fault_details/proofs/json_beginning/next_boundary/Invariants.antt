use Rattle.std.proofs.Common.{◌≤◌, ◌-◌, length}
use Rattle.fault_details.proofs.json_beginning.next_boundary.Given as goal

abbrev pub invariant-bytes : goal.invariant-bytes
invariant-bytes l = record {
  least : l.place ≤ l.end;
  most : l.end ≤ length l.line;
}

abbrev pub decreases-bytes : goal.decreases-bytes
decreases-bytes l = length l.line - l.end
