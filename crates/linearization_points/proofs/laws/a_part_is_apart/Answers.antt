use Rattle.linearization_points.proofs.RunningPoints.{apart}
use Rattle.linearization_points.proofs.laws.a_part_is_apart.Goals as goal

pub returns : goal.returns
returns c = apart
