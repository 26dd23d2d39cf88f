use Rattle.std.proofs.Common.{◌≡◌, ◌<◌, ℕ, true, Some, length, slice_get}
use Rattle.hall_lock.specs.Turns.{ClientView}
use Rattle.node_threads.specs.Joins.{AreOfClient}
use Rattle.node_threads.proofs.join.stop_all.Given as goal

abbrev pub invariant-loop-pass : goal.invariant-loop-pass
invariant-loop-pass g l = record {
  own : AreOfClient l.fn.client l.passes;
  count : length l.passes ≡ length l.fn.passes;
  stopped : (k : ℕ) (pass : ClientView) → k < l.pass-index → slice_get l.passes k ≡ Some pass → pass.is_stopped ≡ true;
}
