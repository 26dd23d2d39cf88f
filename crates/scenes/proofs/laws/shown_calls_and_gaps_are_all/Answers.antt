use Rattle.scenes.proofs.LeftOut.{none_is_lost}
use Rattle.scenes.proofs.laws.shown_calls_and_gaps_are_all.Goals as goal

pub returns : goal.returns
returns c rows part shown order points scene selection is = none_is_lost part shown scene.gaps.items selection is.gaps
