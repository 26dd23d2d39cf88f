use Rattle.std.proofs.Common.{◌≡◌, ◌++◌, drop}
use Rattle.pictures.specs.Marks.{corners_in}
use Rattle.pictures.proofs.marks.corners_in.Given as goal

abbrev pub invariant-loop-index : goal.invariant-loop-index
invariant-loop-index l =
    l.all.items ++ corners_in l.scene l.strip l.index (drop l.index l.dot-items) ≡ corners_in l.scene l.strip 0 l.dot-items
