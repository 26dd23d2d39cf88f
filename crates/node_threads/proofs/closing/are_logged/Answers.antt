use Rattle.std.proofs.Common.{arith}
use Rattle.std.proofs.lemmas.Option.{slice_get_within}
use Rattle.tag.proofs.Lists.{each_next, item_at}
use Rattle.node_threads.specs.Closings.{HasLogs}
use Rattle.node_threads.proofs.closing.are_logged.Goals as goal

pub loop-seat-preserved : goal.loop-seat-preserved
loop-seat-preserved c =
    let halls = c.args.halls.now in
    let l = c.loop-seat in
    each_next (λ k s. HasLogs halls s) c.args.seats.now l.seat-index c.seat-item.result l.invariant
    (item_at c.args.seats.now l.seat-index c.seat-item.result c.loop-seat-test.true c.seat-item.is)
    (c.in_ok-is_logged.ensures c.if-not-branch.false)

pub returns : goal.returns
returns c = λ _ k s at. c.loop-seat.invariant k s (let h = c.loop-seat-test.false in let below = slice_get_within c.args.seats.now k s at
    in omega arith) at
