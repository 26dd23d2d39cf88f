use Rattle.std.proofs.Common.{◌≡◌, ◌++◌, List, map, take}
use Rattle.recorder.specs.declared.order.KeyOrder.{KeyOrder}
use Rattle.parallel_keys.specs.CheckedKeys.{keys_in, recorded_key}
use Rattle.parallel_keys.specs.KeysToCheck.{IsOrderTable, what_of}
use Rattle.parallel_keys.proofs.collect_keys.add_own.Given as goal

abbrev pub invariant-loop-place : goal.invariant-loop-place
invariant-loop-place l = (orders : List KeyOrder) → IsOrderTable (keys_in l.own.entries) orders l.table → map what_of l.keys.items ≡ map what_of l.fn.keys.items ++ map (recorded_key orders) (take l.place l.own.entries)
