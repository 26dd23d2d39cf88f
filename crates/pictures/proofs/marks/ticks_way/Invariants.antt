use Rattle.std.proofs.Common.{◌≡◌, ◌++◌, drop, flat_map}
use Rattle.pictures.specs.Marks.{tick_in}
use Rattle.pictures.proofs.marks.ticks_way.Given as goal

-- what was added, and the lines of the ticks that are left
abbrev pub invariant-loop-place : goal.invariant-loop-place
invariant-loop-place l = l.way.items ++ flat_map (tick_in l.scene l.strip) (drop l.place-index l.place-items)
    ≡ flat_map (tick_in l.scene l.strip) l.place-items
