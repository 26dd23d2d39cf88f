use Rattle.parallel_keys.proofs.Halls.{halls_more}
use Rattle.parallel_keys.proofs.histories.hall_parts.Goals as goal

pub loop-history-preserved : goal.loop-history-preserved
loop-history-preserved c =
    halls_more _ c.args.histories.now c.loop-history.history-index c.history-item.result c.loop-history.parts.items c.push.new.self.items c.in_ok-parts-2.field-0 c.loop-history-test.true c.history-item.is
    c.loop-history.invariant
    c.in_ok-push.ensures.items
    c.in_ok-parts-2.ensures
