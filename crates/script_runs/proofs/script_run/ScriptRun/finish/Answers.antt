use Rattle.std.proofs.lemmas.Result.{on_ok_weaker}
use Rattle.script_runs.proofs.Commands.{finish_seen, stay_seen}
use Rattle.script_runs.proofs.script_run.ScriptRun.finish.Goals as goal

pub returns-in_ok-count-in-Ok : goal.returns-in_ok-count-in-Ok
returns-in_ok-count-in-Ok g c =
    on_ok_weaker c.notice-in-Ok.result
    (finish_seen g.O.Observer.sees c.args.self.now.observer c.notice.new.self c.settle.new.self.observer c.notice-in-Ok.new.self
    c.args.self.now.world c.settle.new.self.world c.args.line c.args.client c.in_ok-count-in-Ok.count c.in-Ok.ensures.begins.may
    c.in_ok-notice-in-Ok.ensures c.in_ok-count-in-Ok.ensures)
    c.notice-in-Ok.ensures

pub returns-in-Err : goal.returns-in-Err
returns-in-Err g c =
    on_ok_weaker c.notice-in-Err.result
    (stay_seen g.O.Observer.sees c.args.self.now.observer c.notice-in-Err.new.self c.args.self.now.world c.args.line c.args.client c.in-Err.why
    c.in-Err.ensures.begins)
    c.notice-in-Err.ensures
