use Rattle.std.proofs.Common.{subst}
use Rattle.recorder.specs.Histories.{Recorded}
use Rattle.recorder.specs.Records.{IsPart}
use Rattle.trace_command.proofs.observed.observe_run.Goals as goal

pub returns-clause-scene : goal.returns-clause-scene
returns-clause-scene c =
    let run = c.in_ok-run.run' in
    let history = c.into_history.ensures in
    let sketch = c.new-sketch.result in
    record {
      last = run.world;
      scene_is = c.into_scene.ensures c.args.script c.args.most run.world sketch
          (rw c.quorums.ensures at c.new-sketch.ensures)
          c.in_ok-run.ensures.first;
      recorded = history.history;
      sound = λ key part is. history.parts key part (subst (λ (h : Recorded). IsPart h.rows key part) history.history is);
    }

pub returns-clause-trace : goal.returns-clause-trace
returns-clause-trace c =
    c.in_ok-into_text.ensures c.args.script c.args.most c.in_ok-run.run'.world c.new.result c.new.ensures c.in_ok-run.ensures.second
