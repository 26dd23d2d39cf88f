use Rattle.std.proofs.Common.{ap}
use Rattle.std.proofs.lemmas.Result.{on_ok_weaker}
use Rattle.record_monitor.proofs.KeySteps.{after_all}
use Rattle.record_monitor.proofs.watched_keys.WatchedKeys.end_after_all.Goals as goal

pub returns-clause-watched : goal.returns-clause-watched
returns-clause-watched c =
    on_ok_weaker c.report.result (λ more most rows gone key client begin returned formed e at begun may late there a.
    after_all most rows gone key client begin c.args.place c.args.op returned c.args.number c.args.self.now c.report.new.self formed may
    e at begun late there a c.report.ensures.numbers (ap (λ v. v.items) c.report.ensures.watched) more)
    c.report.ensures.reports
