use Rattle.std.proofs.Common.{sym, ◌∙◌, ap}
use Rattle.world_steps.specs.Refusals.{refusal_of}
use Rattle.world_steps.proofs.system.System.refusal.Goals as goal

pub returns-in-Invoke : goal.returns-in-Invoke
returns-in-Invoke c = c.invoke_refusal.ensures c.in-Invoke.key c.in-Invoke.action ∙ ap (refusal_of c.args.self.now) (sym c.in-Invoke.is)
