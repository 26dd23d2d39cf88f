use Rattle.scenes.proofs.ColumnClients.{ClientsSoFar}
use Rattle.scenes.proofs.columns.clients_in.Given as goal

abbrev pub invariant-loop-lane : goal.invariant-loop-lane
invariant-loop-lane l = ClientsSoFar l.lanes l.columns l.fn.number l.lane l.clients.items
