use Rattle.std.proofs.Common.{◌≡◌, ◌≤◌}
use Rattle.fault_details.specs.Shown.{boundary}
use Rattle.fault_details.proofs.shown.boundary.Given as goal

abbrev pub invariant-loop-place : goal.invariant-loop-place
invariant-loop-place l = record {
  same : boundary l.most l.bytes ≡ boundary l.place l.bytes;
  most : l.place ≤ l.most;
}

abbrev pub decreases-loop-place : goal.decreases-loop-place
decreases-loop-place l = l.place
