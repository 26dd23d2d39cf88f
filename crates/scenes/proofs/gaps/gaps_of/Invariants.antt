use Rattle.std.proofs.Common.{◌≡◌, ◌≤◌, ◌++◌, drop, length}
use Rattle.scenes.specs.Gaps.{gaps_from}
use Rattle.scenes.proofs.gaps.gaps_of.Given as goal

-- what was found, and what is left from there on
abbrev pub invariant-loop-i : goal.invariant-loop-i
invariant-loop-i l = (l.gaps.items ++ gaps_from l.part l.from (drop l.i-index l.shown) ≡ gaps_from l.part 0 l.shown) × (l.from ≤ length l.part)
