use Rattle.std.proofs.lemmas.Result.{on_ok_weaker}
use Rattle.record_monitor.proofs.watched.Watched.keep_write.Goals as goal

pub returns-in-Some-clause-told : goal.returns-in-Some-clause-told
returns-in-Some-clause-told c = on_ok_weaker c.end.result (λ knows rows key told own has.
    let mid = c.in_ok-make_room.ensures.told rows key told in
    let write = c.answered-write.ensures in
    record { calls = knows rows key (write.knows rows key mid.calls) (write.told rows key mid.calls own has); told = mid.told })
    c.end.ensures.knows
