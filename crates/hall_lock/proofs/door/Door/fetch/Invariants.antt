use Rattle.std.proofs.Common.{◌≡◌}
use Rattle.hall_lock.proofs.door.Door.fetch.Given as goal

abbrev pub invariant-loop-tries : goal.invariant-loop-tries
invariant-loop-tries g l = l.self ≡ l.fn.self
