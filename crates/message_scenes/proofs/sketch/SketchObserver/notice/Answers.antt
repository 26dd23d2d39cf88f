use Rattle.message_scenes.specs.declared.sketch.Sketch.{Sketch}
use Rattle.message_scenes.proofs.Drawing.{unfinished_added}
use Rattle.message_scenes.proofs.sketch.SketchObserver.notice.Goals as goal

pub returns-in_ok-add_unfinished-in-Unfinished : goal.returns-in_ok-add_unfinished-in-Unfinished
returns-in_ok-add_unfinished-in-Unfinished c =
    let new : Sketch = record { scene = c.add_unfinished.new.self; quota = c.admits.new.self } in
    let h = c.in_ok-add_unfinished-in-Unfinished.ensures in
    unfinished_added c.args.self.now new c.args.line _ _ c.args.notice.now c.in-Unfinished.is c.admits.ensures.after
    (c.admits.ensures.shown c.if-admits.true) h.shapes h.quorums
