use Rattle.hall_lock.proofs.Moves.{takes}
use Rattle.hall_lock.proofs.door.Door.try_receive.Goals as goal

pub try_recv_as-requires-clause-rule : goal.try_recv_as-requires-clause-rule
try_recv_as-requires-clause-rule g c = (takes _ _, λ _ _ _ _. tt)
