use Rattle.std.proofs.lemmas.Result.{IfOk-weaker}
use Rattle.draw_command.specs.Drawings.{order_in}
use Rattle.draw_command.proofs.key_scene.scene_of_key.Goals as goal

pub returns : goal.returns
returns c =
    IfOk-weaker c.scene_of.result _ _ (λ scene is. record {
      order = order_in c.in_ok-order.order;
      chosen = c.in_ok-order.ensures.chosen;
      points = c.in_ok-points.points.items;
      points_are = c.in_ok-points.ensures;
      window = c.window_around-window.result;
      around = rw c.center.ensures at c.window_around-window.ensures;
      shown = c.in_ok-shown.shown.items;
      calls = c.in_ok-shown.ensures.calls;
      is = is;
    }) (rw (c.as_slice.ensures.value, c.calls.ensures, c.as_slice-2.ensures.value) at c.scene_of.ensures)
