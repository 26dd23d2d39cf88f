use Rattle.std.proofs.Common.{◌≤◌, ◌-◌, length, take}
use Rattle.fault_details.specs.Beginnings.{BeginsJson}
use Rattle.fault_details.proofs.json_beginning.json_beginning.Given as goal

abbrev pub invariant-halves : goal.invariant-halves
invariant-halves l = record {
  order : l.place ≤ l.end;
  most : l.end ≤ length l.line;
  begins : BeginsJson (take l.place l.line);
}

abbrev pub decreases-halves : goal.decreases-halves
decreases-halves l = l.end - l.place
