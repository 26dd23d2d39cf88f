use Rattle.scenes.proofs.Apart.{stand_apart}
use Rattle.scenes.proofs.laws.bars_of_a_column_stand_apart.Goals as goal

pub returns : goal.returns
returns c rows part shown order points scene bar other well recorded sequence selection is = stand_apart rows part shown order points scene well recorded
    sequence selection is bar other
