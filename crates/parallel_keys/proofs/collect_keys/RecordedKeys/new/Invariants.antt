use Rattle.std.proofs.Common.{◌≡◌, map, take}
use Rattle.parallel_keys.specs.CheckedKeys.{all_parts}
use Rattle.parallel_keys.specs.KeysToCheck.{AreNumbered, entry_of}
use Rattle.parallel_keys.proofs.collect_keys.RecordedKeys.new.Given as goal

abbrev pub invariant-loop-own : goal.invariant-loop-own
invariant-loop-own l = record {
  numbered : AreNumbered l.numbers l.list.items;
  entries : map entry_of l.list.items ≡ all_parts (map (λ p. p.entries) (take l.own-index l.parts));
}
