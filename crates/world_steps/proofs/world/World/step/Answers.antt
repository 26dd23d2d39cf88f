use Rattle.std.proofs.Common.{sym, ◌∙◌}
use Rattle.world_steps.proofs.world.World.step.Goals as goal

pub take-requires : goal.take-requires
take-requires c = rw (← c.self.view_is) (sym c.refusal.ensures ∙ c.in_default.is)
