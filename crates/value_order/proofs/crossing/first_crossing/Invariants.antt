use Rattle.std.proofs.Common.{ℕ, ◌<◌}
use Rattle.value_order.specs.Zones.{CrossAt}
use Rattle.value_order.proofs.crossing.first_crossing.Given as goal

abbrev pub invariant-loop-m : goal.invariant-loop-m
invariant-loop-m l = (j : ℕ) → j < l.m → CrossAt l.zones l.k j → ⊥
