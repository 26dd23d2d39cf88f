use Rattle.std.proofs.Common.{Some, refl}
use Rattle.message_scenes.specs.declared.sketch.Sketch.{Sketch}
use Rattle.message_scenes.proofs.Drawing.{step_added, step_left_out}
use Rattle.message_scenes.proofs.sketch.SketchObserver.after.Goals as goal

pub returns-in_ok-add-in-Some : goal.returns-in_ok-add-in-Some
returns-in_ok-add-in-Some c =
    let old = c.args.self.now in
    let new : Sketch = record { scene = c.add.new.self; quota = old.quota } in
    let h = c.in_ok-add-in-Some.ensures in
    rw c.in-Some.is (λ first origin s step will steps. step_added first old new origin s c.args.world.now step c.in-Some.coming will (Some c.args.effect.now) steps.1
    (h.shapes s)
    h.quorums refl steps.0 steps.2)

pub returns-in-None : goal.returns-in-None
returns-in-None c =
    rw c.in-None.is (λ first origin s step left steps. step_left_out first c.args.self.now origin s step left steps.0)
