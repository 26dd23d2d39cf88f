-- The scene of a key is in order.
use Rattle.std.proofs.Common.{ℕ, List, [], Option, Some, None, refl, sym, subst, arith}
use Rattle.std.specs.Prelude.{unwrap_or}
use Rattle.std.proofs.lemmas.List.Sorted.{IsNonDecreasingBy-short}
use Rattle.tag.proofs.Options.{none_some}
use Rattle.tag.specs.declared.numbers.OpId.{OpId}
use Rattle.recorder.specs.declared.part.Call.{Call}
use Rattle.explanations.specs.declared.hall_rows.HallRows.{HallRows}
use Rattle.linearization_points.specs.Points.{ArePoints}
use Rattle.scenes.specs.declared.scene.Scene.{Scene}
use Rattle.scenes.proofs.ShownCalls.{places_up}
use Rattle.pictures.specs.Layout.{IsInOrder}
use Rattle.judged_keys.specs.Judgements.{Judgement}
use Rattle.draw_command.specs.Drawings.{AreDrawnPoints, IsKeyScene}
use Rattle.draw_command.specs.declared.drawn.Drawn.{Drawn}

-- no call has no points
no_points : (part : List Call) → ArePoints part [] []
no_points part = record { all = refl; within = λ i place call at stands. none_some at; rising = IsNonDecreasingBy-short (λ (x : ℕ). x) [] (omega arith) }

drawn_points : (part : List Call) (order : Option (List OpId)) (points : List ℕ) → AreDrawnPoints part order points → ArePoints part (unwrap_or order []) points
drawn_points part (Some order) points are = are
drawn_points part None points none = subst (λ (ps : List ℕ). ArePoints part [] ps) (sym none) (no_points part)

pub in_order : (drawn : Drawn) (hall : HallRows) (key : Judgement) (faulty : List OpId) (scene : Scene) → IsKeyScene drawn hall key faulty scene → IsInOrder scene
in_order drawn hall key faulty scene is = record {
  ticks = is.is.ticks.rising;
  dots = places_up hall.history.now.rows key.one.part is.shown (unwrap_or is.order []) is.points scene (drawn_points key.one.part is.order is.points is.points_are) is.is;
  gaps = is.is.gaps.rising;
}
