use Rattle.std.proofs.lemmas.Result.{on_ok_weaker}
use Rattle.record_monitor.proofs.watched.Watched.refuse.Goals as goal

pub returns-clause-told : goal.returns-clause-told
returns-clause-told c = on_ok_weaker c.tell_refusal.result
    (λ tells rows key told own answer. tells rows key (record { calls = told.calls; told = told.told }) own answer) c.tell_refusal.ensures.told
