use Rattle.hall_lock.proofs.Moves.{takes}
use Rattle.hall_lock.proofs.door.Door.wait.Goals as goal

pub recv_as-requires-clause-rule : goal.recv_as-requires-clause-rule
recv_as-requires-clause-rule g c = (takes _ _, λ _ _ _ _. tt)
