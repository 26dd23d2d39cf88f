use Rattle.std.proofs.Common.{map, take}
use Rattle.parallel_keys.specs.Histories.{AreHallParts}
use Rattle.parallel_keys.proofs.histories.hall_parts.Given as goal

abbrev pub invariant-loop-history : goal.invariant-loop-history
invariant-loop-history l = AreHallParts (take l.history-index l.histories) (map (λ p. p.entries) l.parts.items)
