use Rattle.std.proofs.Common.{map}
use Rattle.parallel_keys.specs.KeysToCheck.{what_of}
use Rattle.whole_pictures.proofs.Judging.{AreTaken}
use Rattle.whole_pictures.proofs.together.judge_together.Given as goal

abbrev pub invariant-loop-one : goal.invariant-loop-one
invariant-loop-one l = AreTaken l.judged (map what_of l.keys) l.one-index l.orders.items l.undecided
