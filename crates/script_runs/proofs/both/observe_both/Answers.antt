use Rattle.std.proofs.lemmas.Result.{IfOk-weaker}
use Rattle.script_runs.proofs.Pairs.{part_run}
use Rattle.script_runs.proofs.both.observe_both.Goals as goal

pub returns-clause-first : goal.returns-clause-first
returns-clause-first g c =
    IfOk-weaker c.observe.result _ _ (λ run observed. part_run (λ both. both.first) _ g.A.Observer.sees (λ old event new seen. seen.0)
    c.args.script run.world _ run.observer observed) c.observe.ensures

pub returns-clause-second : goal.returns-clause-second
returns-clause-second g c =
    IfOk-weaker c.observe.result _ _ (λ run observed. part_run (λ both. both.second) _ g.B.Observer.sees (λ old event new seen. seen.1)
    c.args.script run.world _ run.observer observed) c.observe.ensures
