use Rattle.std.proofs.lemmas.Result.{IfOk-weaker}
use Rattle.whole_pictures.proofs.scene.whole_scene.Goals as goal

pub returns : goal.returns
returns c =
    IfOk-weaker c.scene_of.result _ _ (λ scene is. record {
      points = c.in_ok-points.points.items;
      points_are = c.in_ok-points.ensures;
      window = c.window_around-window.result;
      around = rw c.center.ensures at c.window_around-window.ensures;
      shown = c.in_ok-shown.shown.items;
      shown_are = c.in_ok-shown.ensures.calls;
      is = is;
    }) (rw (c.as_slice.ensures.value, c.as_slice-2.ensures.value) at c.scene_of.ensures)
