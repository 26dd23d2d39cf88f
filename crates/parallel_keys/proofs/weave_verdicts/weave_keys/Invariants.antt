use Rattle.parallel_keys.specs.KeysToCheck.{checked_in}
use Rattle.parallel_keys.proofs.Keyed.{KeyedSoFar}
use Rattle.parallel_keys.proofs.weave_verdicts.weave_keys.Given as goal

abbrev pub invariant-loop-index : goal.invariant-loop-index
invariant-loop-index l = KeyedSoFar (checked_in l.keys) l.index l.keyed.items
