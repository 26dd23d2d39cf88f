use Rattle.std.proofs.Common.{ℕ, ◌≡◌, ◌<◌, Some}
use Rattle.std.specs.List.{slice_get}
use Rattle.recorder.specs.Halls.{IsHallOf}
use Rattle.recorder.specs.Histories.{Recorded}
use Rattle.recorder.proofs.histories.are_of_their_halls.Given as goal

abbrev pub invariant-loop-k : goal.invariant-loop-k
invariant-loop-k l = (m : ℕ) (history : Recorded) → m < l.k → slice_get l.histories m ≡ Some history → IsHallOf l.halls m history.rows
