use Rattle.std.proofs.Common.{◌≡◌, ◌++◌, map, take}
use Rattle.parallel_keys.specs.KeysToCheck.{AreNumbered, entry_of}
use Rattle.parallel_keys.proofs.collect_keys.number_keys.Given as goal

abbrev pub invariant-loop-place : goal.invariant-loop-place
invariant-loop-place l = record {
  numbered : AreNumbered l.numbers l.list.items;
  entries : map entry_of l.list.items ≡ map entry_of l.fn.list.items ++ take l.place l.parts.entries;
}
