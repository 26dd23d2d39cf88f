use Rattle.std.proofs.Common.{Ok, ap, sym, ◌∙◌}
use Rattle.cli.proofs.Endings.{weaker}
use Rattle.cli.proofs.outcome.conclude.Goals as goal

pub returns-in-Ok : goal.returns-in-Ok
returns-in-Ok g c = weaker _ _ _ _ _ _ (λ outcome is. c.in-Ok.is ∙ ap Ok (sym is)) (λ why none. absurd none) c.send.result c.send.ensures
