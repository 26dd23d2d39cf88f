use Rattle.replica.proofs.Rising.{pairs_after-rises}
use Rattle.replica.proofs.laws.tags_never_fall.Goals as goal

pub returns : goal.returns
returns c = pairs_after-rises
