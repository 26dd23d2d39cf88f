use Rattle.std.proofs.Common.{refl, arith}
use Rattle.std.proofs.lemmas.Option.{slice_get_within}
use Rattle.tag.proofs.Lists.{each_next, item_at}
use Rattle.recorder.specs.Logs.{IsLog, of_hall}
use Rattle.node_threads.proofs.Leaving.{logged}
use Rattle.node_threads.proofs.closing.is_logged.Goals as goal

pub loop-hall-preserved : goal.loop-hall-preserved
loop-hall-preserved c =
    let halls = c.args.halls.now in
    let seat = c.args.seat.now in
    let hall = c.loop-hall.hall in
    let closed = c.index-halls-hall.result in
    each_next (λ k one. IsLog one.history.rows seat.client (of_hall k seat.log)) halls hall closed c.loop-hall.invariant
    (item_at halls hall closed c.loop-hall-test.true c.index-halls-hall.is)
    (logged (λ e. e.now) seat hall closed _ _ c.in_ok-entries.entries.items _ _ c.index-halls-hall.is c.client.ensures c.log.ensures.log
    c.in_ok-entries.ensures c.deref.ensures.value
    (c.if-not-is_log.ensures refl))

pub returns : goal.returns
returns c = λ _ hall closed at. c.loop-hall.invariant hall closed (let h = c.loop-hall-test.false in let below = slice_get_within
    c.args.halls.now hall closed at in omega arith) at
