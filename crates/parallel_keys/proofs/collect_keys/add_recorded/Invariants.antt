use Rattle.std.proofs.Common.{ℕ, ◌≡◌, ◌++◌, List, Some, map}
use Rattle.std.specs.List.{slice_get}
use Rattle.recorder.specs.declared.order.KeyOrder.{KeyOrder}
use Rattle.parallel_keys.specs.declared.collect_keys.NumberedKey.{NumberedKey}
use Rattle.parallel_keys.specs.CheckedKeys.{recorded_key}
use Rattle.parallel_keys.specs.KeysToCheck.{IsOrderTable, entry_of, what_of}
use Rattle.parallel_keys.proofs.collect_keys.add_recorded.Given as goal

abbrev pub invariant-loop-own : goal.invariant-loop-own
invariant-loop-own l = record {
  placed : (i : ℕ) (own : NumberedKey) → slice_get l.own-iterator.rest.items i ≡ Some own → slice_get l.fn.recorded.numbers own.number ≡ Some own.key.now;
  keys : (orders : List KeyOrder) → IsOrderTable l.fn.recorded.numbers orders l.table → map what_of l.keys.items ++ map (recorded_key orders) (map entry_of l.own-iterator.rest.items) ≡ map what_of l.fn.keys.items ++ map (recorded_key orders) (map entry_of l.fn.recorded.list.items);
}
