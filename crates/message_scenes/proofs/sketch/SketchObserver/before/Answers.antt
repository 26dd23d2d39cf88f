use Rattle.std.proofs.Common.{refl}
use Rattle.message_scenes.proofs.sketch.SketchObserver.before.Goals as goal

pub returns : goal.returns
returns c =
    let h = c.in_ok-coming.ensures in
    record {
      room = λ most count after. c.admits.ensures.shown c.if-not-admits.false most count after;
      on = c.admits.ensures.after;
      same = refl;
      origin_is = h.origin;
      step_is = h.step;
      is = h.is;
    }
