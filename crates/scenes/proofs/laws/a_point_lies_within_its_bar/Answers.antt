use Rattle.scenes.proofs.ShownCalls.{within_bar}
use Rattle.scenes.proofs.laws.a_point_lies_within_its_bar.Goals as goal

pub returns : goal.returns
returns c rows part shown order points scene = within_bar rows part shown order points scene
