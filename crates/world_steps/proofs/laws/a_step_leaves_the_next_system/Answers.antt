use Rattle.world_steps.proofs.StepAnswers.{next_is}
use Rattle.world_steps.proofs.laws.a_step_leaves_the_next_system.Goals as goal

pub returns : goal.returns
returns c = next_is
