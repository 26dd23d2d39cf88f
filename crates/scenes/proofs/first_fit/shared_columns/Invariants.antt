use Rattle.scenes.proofs.FirstFits.{Fitted}
use Rattle.scenes.proofs.first_fit.shared_columns.Given as goal

abbrev pub invariant-loop-bar : goal.invariant-loop-bar
invariant-loop-bar l = Fitted l.bars l.ends l.bar-index l.columns.items l.taken.items
