use Rattle.std.proofs.Common.{ap, ◌∙◌}
use Rattle.network.specs.Pools.{Pool}
use Rattle.world_settle.proofs.Forward.{ahead, request_next}
use Rattle.world_settle.proofs.settle_steps.SettleSteps.begin.Goals as goal

pub returns-in-Some : goal.returns-in-Some
returns-in-Some c =
    let s = c.args.world.now in
    let name = c.args.self.now.client in
    rw c.requires (λ steps left accepted. request_next name s c.in-Some.replica c.sent.result steps
    (c.sent.ensures.sent ∙ ap (λ (p : Pool). p.sent) c.pool.ensures)
    (ahead name s c.in-Some.replica c.in-Some.ensures.1 steps c.in-Some.ensures.0 c.in-Some.ensures.2 left) accepted)
