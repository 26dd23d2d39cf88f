use Rattle.std.proofs.Common.{arith}
use Rattle.labels.proofs.laws.the_farthest_place_is_far.Goals as goal

pub returns : goal.returns
returns c = omega arith
