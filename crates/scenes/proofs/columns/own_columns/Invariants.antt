use Rattle.std.proofs.Common.{ℕ, ◌≡◌, ◌<◌, Some, length}
use Rattle.std.specs.List.{slice_get}
use Rattle.scenes.proofs.columns.own_columns.Given as goal

abbrev pub invariant-loop-lane : goal.invariant-loop-lane
invariant-loop-lane l = record {
  long : length l.of_lanes.items ≡ l.lane;
  own : (lane : ℕ) → lane < l.lane → slice_get l.of_lanes.items lane ≡ Some lane;
}
