use Rattle.std.proofs.Common.{◌≡◌, ◌++◌, map, take}
use Rattle.parallel_keys.specs.CheckedKeys.{other_key}
use Rattle.parallel_keys.specs.KeysToCheck.{what_of}
use Rattle.parallel_keys.proofs.collect_keys.add_others.Given as goal

abbrev pub invariant-loop-one : goal.invariant-loop-one
invariant-loop-one l = map what_of l.keys.items ≡ map what_of l.fn.keys.items ++ map other_key (map (λ one. one.now) (take l.one-index l.others))
