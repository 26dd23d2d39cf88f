use Rattle.std.proofs.Common.{take}
use Rattle.parallel_keys.specs.KeysToCheck.{IsOrderTable}
use Rattle.parallel_keys.proofs.collect_keys.OrderTable.new.Given as goal

abbrev pub invariant-loop-one : goal.invariant-loop-one
invariant-loop-one l = IsOrderTable l.numbers (take l.one-index l.orders) l.table
