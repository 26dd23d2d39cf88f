use Rattle.linearization_points.proofs.RunningPoints.{points_there, kept}
use Rattle.linearization_points.proofs.laws.precedence_is_kept_where_there_are_points.Goals as goal

pub returns : goal.returns
returns c part order sequence apart known = (
  points_there part order sequence apart known,
  λ points i j a b less first second before. kept part order points.0 points.1 i j a b
      less first second before,
)
