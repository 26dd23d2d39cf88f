use Rattle.std.proofs.Common.{ℕ, ◌<◌, ◌≤◌, ◌-◌, ◌≡◌, Some, length}
use Rattle.std.specs.List.{slice_get}
use Rattle.recorder.specs.declared.part.Call.{Call}
use Rattle.certificate_check.proofs.listing.find_call.Given as goal

abbrev pub invariant-halves : goal.invariant-halves
invariant-halves l = record {
  order : l.low ≤ l.high;
  within : l.high ≤ length l.part;
  before : (k : ℕ) (call : Call) → k < l.low → slice_get l.part k ≡ Some call → call.op.0 < l.op.0;
  after : (k : ℕ) (call : Call) → l.high ≤ k → slice_get l.part k ≡ Some call → l.op.0 < call.op.0;
}

abbrev pub decreases-halves : goal.decreases-halves
decreases-halves l = l.high - l.low
