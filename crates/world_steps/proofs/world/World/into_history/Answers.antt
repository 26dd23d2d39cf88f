use Rattle.world_steps.proofs.Justified.{tags_justify}
use Rattle.world_steps.proofs.world.World.into_history.Goals as goal

pub returns-clause-parts : goal.returns-clause-parts
returns-clause-parts c = rw (← c.self.view_is) (λ key part is. tags_justify c.self.inside.system.history.rows c.self.invariant.sound.recorded key part is)
