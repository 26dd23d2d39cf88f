use Rattle.std.proofs.Common.{◌≡◌, ◌++◌, drop}
use Rattle.pictures.specs.Dots.{corners}
use Rattle.pictures.proofs.path.corners_of.Given as goal

abbrev pub invariant-loop-index : goal.invariant-loop-index
invariant-loop-index l = l.all.items ++ corners l.scene l.index (drop l.index l.dot-items) ≡ corners l.scene 0 l.dot-items
