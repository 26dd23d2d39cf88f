use Rattle.cli.proofs.Tagging.{hall_made}
use Rattle.cli.proofs.tag_orders.tag_orders.Goals as goal

pub loop-own-preserved : goal.loop-own-preserved
loop-own-preserved c =
    hall_made _ c.args.parts.now c.loop-own.own-index c.own-item.result c.loop-own-test.true c.own-item.is c.add_hall.new.self
    (c.in_ok-add_hall.ensures _ c.loop-own.invariant)
