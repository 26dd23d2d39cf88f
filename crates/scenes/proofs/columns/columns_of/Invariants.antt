use Rattle.scenes.proofs.ColumnClients.{ColumnsSoFar}
use Rattle.scenes.proofs.columns.columns_of.Given as goal

abbrev pub invariant-loop-number : goal.invariant-loop-number
invariant-loop-number l = ColumnsSoFar l.lanes l.columns l.number l.all.items
