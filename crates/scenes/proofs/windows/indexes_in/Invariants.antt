use Rattle.scenes.proofs.Around.{IndexesSoFar}
use Rattle.scenes.proofs.windows.indexes_in.Given as goal

abbrev pub invariant-loop-i : goal.invariant-loop-i
invariant-loop-i l = IndexesSoFar l.count l.fn.window l.i l.indexes.items
