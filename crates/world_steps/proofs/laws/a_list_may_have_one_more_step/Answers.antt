use Rattle.world_steps.proofs.Onward.{accepted_step, after_step}
use Rattle.world_steps.proofs.laws.a_list_may_have_one_more_step.Goals as goal

pub returns-clause-after : goal.returns-clause-after
returns-clause-after c = after_step

pub returns-clause-accepted : goal.returns-clause-accepted
returns-clause-accepted c = accepted_step
