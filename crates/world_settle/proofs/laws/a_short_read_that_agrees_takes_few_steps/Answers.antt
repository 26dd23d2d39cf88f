use Rattle.world_settle.proofs.Bounds.{short_steps}
use Rattle.world_settle.proofs.laws.a_short_read_that_agrees_takes_few_steps.Goals as goal

pub returns : goal.returns
returns c = short_steps c.steps_keep_a_system_sound.ensures.steps
