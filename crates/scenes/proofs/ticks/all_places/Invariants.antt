use Rattle.std.proofs.Common.{◌≡◌, take}
use Rattle.std.specs.List.{flat_map}
use Rattle.scenes.specs.Scenes.{places_of}
use Rattle.scenes.proofs.ticks.all_places.Given as goal

abbrev pub invariant-loop-bar : goal.invariant-loop-bar
invariant-loop-bar l = l.places.items ≡ flat_map places_of (take l.bar-index l.bars)
