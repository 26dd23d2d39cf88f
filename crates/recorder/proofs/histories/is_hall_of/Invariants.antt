use Rattle.std.proofs.Common.{ℕ, ◌≡◌, ◌<◌, Some}
use Rattle.std.specs.List.{slice_get}
use Rattle.recorder.specs.declared.row.Row.{Row}
use Rattle.recorder.specs.Halls.{FallsTo}
use Rattle.recorder.proofs.histories.is_hall_of.Given as goal

abbrev pub invariant-loop-place : goal.invariant-loop-place
invariant-loop-place l = (k : ℕ) (row : Row) → k < l.place → slice_get l.history.rows k ≡ Some row → FallsTo l.halls l.hall row
