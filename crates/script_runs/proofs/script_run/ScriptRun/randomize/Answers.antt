use Rattle.std.proofs.lemmas.Result.{on_ok_weaker}
use Rattle.script_runs.proofs.Commands.{walk_seen}
use Rattle.script_runs.proofs.script_run.ScriptRun.randomize.Goals as goal

pub returns : goal.returns
returns g c =
    on_ok_weaker c.notice-2.result
    (walk_seen g.O.Observer.sees c.args.self.now.observer c.notice.new.self c.walk.new.self.observer c.notice-2.new.self c.args.self.now.world
    c.walk.new.self.world c.args.line c.args.seed c.args.count c.in_ok-taken.taken c.in_ok-taken.ensures.walks c.in_ok-notice.ensures
    c.in_ok-taken.ensures.seen)
    c.notice-2.ensures
