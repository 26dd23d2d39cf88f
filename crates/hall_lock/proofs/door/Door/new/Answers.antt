use Rattle.hall_lock.proofs.Moves.{begins}
use Rattle.hall_lock.proofs.door.Door.new.Goals as goal

pub bounded_with-requires-clause-rule : goal.bounded_with-requires-clause-rule
bounded_with-requires-clause-rule c = begins
