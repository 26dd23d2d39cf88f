use Rattle.diagrams.specs.Lifelines.{replica_lifeline}
use Rattle.labels.proofs.Rendering.{each_below_none, each_below_step}
use Rattle.diagrams.proofs.lifelines.append_replicas.Goals as goal

pub loop-number-init : goal.loop-number-init
loop-number-init c = each_below_none (replica_lifeline c.args.scene.now) c.args.page.now.items

pub loop-number-preserved : goal.loop-number-preserved
loop-number-preserved c =
    each_below_step (replica_lifeline c.args.scene.now) c.loop-number.number c.args.page.now.items c.loop-number.page.items _ c.loop-number.invariant
    c.in_ok-append_replica.ensures
