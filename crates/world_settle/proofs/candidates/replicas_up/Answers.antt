use Rattle.std.proofs.Common.{◌≡◌, ◌<◌, length, sym, subst}
use Rattle.quorum.specs.Sets.{Replicas}
use Rattle.world_settle.specs.Refusing.{replicas_up}
use Rattle.world_settle.specs.Settling.{candidates, with_all}
use Rattle.world_settle.proofs.Counting.{up_more, up_fewer}
use Rattle.world_settle.proofs.candidates.replicas_up.Goals as goal

pub loop-replica-smaller : goal.loop-replica-smaller
loop-replica-smaller c =
    let s = c.args.world.now in
    subst (λ (x : Replicas). length (candidates s x) < length (candidates s c.loop-replica.set)) (sym c.add.ensures)
    (up_fewer s c.loop-replica.set c.in-Some.replica c.in-Some.ensures.0 c.in-Some.ensures.1)

pub loop-replica-preserved : goal.loop-replica-preserved
loop-replica-preserved c =
    let s = c.args.world.now in
    subst (λ (x : Replicas). with_all x (candidates s x) ≡ replicas_up s) (sym c.add.ensures)
    (up_more s c.loop-replica.set c.in-Some.replica c.in-Some.ensures.0 c.in-Some.ensures.1 c.loop-replica.invariant)
