use Rattle.std.proofs.Common.{◌≡◌, ◌*◌, ◌≤◌, take}
use Rattle.recorder.specs.Halls.{hall_calls}
use Rattle.recorder.proofs.histories.hall_calls.Given as goal

abbrev pub invariant-loop-k : goal.invariant-loop-k
invariant-loop-k l = (l.total ≡ hall_calls (take l.k l.histories)) × (l.total ≤ 1000000 * l.k)
