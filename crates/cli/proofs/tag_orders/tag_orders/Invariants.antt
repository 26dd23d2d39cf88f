use Rattle.std.proofs.Common.{map, take}
use Rattle.parallel_keys.specs.CheckedKeys.{all_parts}
use Rattle.cli.specs.TagOrders.{AreMade}
use Rattle.cli.proofs.tag_orders.tag_orders.Given as goal

abbrev pub invariant-loop-own : goal.invariant-loop-own
invariant-loop-own l = AreMade (all_parts (map (λ p. p.entries) (take l.own-index l.parts))) l.made
