use Rattle.scenes.proofs.ShownCalls.{places_up}
use Rattle.scenes.proofs.laws.the_dots_of_a_scene_do_not_fall.Goals as goal

pub returns : goal.returns
returns c rows part shown order points scene = places_up rows part shown order points scene
