use Rattle.std.proofs.Common.{List, map, take}
use Rattle.parallel_keys.specs.KeysToCheck.{what_of}
use Rattle.justify_by_values.specs.Decided.{AreDecided, DecidedKey}
use Rattle.justify_by_values.specs.Gathered.{AreGathered}
use Rattle.justify_by_values.proofs.found_orders.FoundOrders.of_keys.Given as goal

abbrev pub invariant-loop-one : goal.invariant-loop-one
invariant-loop-one l = (all : List DecidedKey) × AreDecided (map what_of (take l.one-index l.keys)) all × AreGathered all l.gathered
