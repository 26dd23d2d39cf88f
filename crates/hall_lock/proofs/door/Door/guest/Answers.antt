use Rattle.hall_lock.proofs.Moves.{forks}
use Rattle.hall_lock.proofs.door.Door.guest.Goals as goal

pub another-pass-requires-clause-rule : goal.another-pass-requires-clause-rule
another-pass-requires-clause-rule c = forks _ _
