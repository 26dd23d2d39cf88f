use Rattle.script_runs.proofs.Quotas.{none_shown}
use Rattle.message_scenes.specs.Sketches.{IsDrawing}
use Rattle.message_scenes.proofs.sketch.Sketch.new.Goals as goal

pub returns : goal.returns
returns c =
    none_shown (IsDrawing c.args.quorums c.new.result) c.args.most c.new-2.result
    (record { same = c.new.ensures.quorums; shapes = c.new.ensures.shapes }) c.new-2.ensures
