use Rattle.std.proofs.Common.{map, take}
use Rattle.parallel_keys.specs.KeysToCheck.{what_of}
use Rattle.judged_keys.proofs.Judgements.{AreParted}
use Rattle.judged_keys.proofs.finding.find_each.Given as goal

abbrev pub invariant-loop-one : goal.invariant-loop-one
invariant-loop-one l = AreParted l.judged (map what_of (take l.one-index l.keys)) l.refused.items l.others.items l.undecided
