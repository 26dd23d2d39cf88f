use Rattle.std.proofs.Common.{take}
use Rattle.scenes.specs.Listed.{AreFirstPlaces}
use Rattle.scenes.proofs.listed.first_places.Given as goal

abbrev pub invariant-loop-place : goal.invariant-loop-place
invariant-loop-place l = AreFirstPlaces (take l.place l.order) l.bars l.places.items
