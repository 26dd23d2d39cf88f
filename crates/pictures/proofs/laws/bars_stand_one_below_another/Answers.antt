use Rattle.pictures.proofs.Readable.{bars_below}
use Rattle.pictures.proofs.laws.bars_stand_one_below_another.Goals as goal

pub returns : goal.returns
returns c = bars_below
