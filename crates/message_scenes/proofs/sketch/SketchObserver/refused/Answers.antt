use Rattle.message_scenes.specs.declared.sketch.Sketch.{Sketch}
use Rattle.message_scenes.proofs.Drawing.{refused_added}
use Rattle.message_scenes.proofs.sketch.SketchObserver.refused.Goals as goal

pub returns-in_ok-add_refused : goal.returns-in_ok-add_refused
returns-in_ok-add_refused c = λ s is.
    let new : Sketch = record { scene = c.add_refused.new.self; quota = c.admits.new.self } in
    let h = c.in_ok-add_refused.ensures in
    refused_added c.args.self.now new c.args.origin.now s c.args.step.now c.args.why c.admits.ensures.after
    (c.admits.ensures.shown c.if-admits.true) h.shapes h.quorums is
