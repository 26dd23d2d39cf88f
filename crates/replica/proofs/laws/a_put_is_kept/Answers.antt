use Rattle.replica.proofs.Rising.{adopt-kept}
use Rattle.replica.proofs.laws.a_put_is_kept.Goals as goal

pub returns : goal.returns
returns c = adopt-kept
