use Rattle.std.proofs.Common.{map, take}
use Rattle.parallel_keys.specs.CheckedKeys.{all_parts}
use Rattle.cli.specs.Justifications.{AreJustified}
use Rattle.cli.proofs.noted_orders.checked_orders.Given as goal

abbrev pub invariant-loop-own : goal.invariant-loop-own
invariant-loop-own l = AreJustified (all_parts (map (λ p. p.entries) (take l.own-index l.parts))) l.orders.items
