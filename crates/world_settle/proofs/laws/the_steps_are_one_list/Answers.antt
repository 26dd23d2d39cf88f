use Rattle.world_settle.proofs.Plans.{steps_once}
use Rattle.world_settle.proofs.laws.the_steps_are_one_list.Goals as goal

pub returns : goal.returns
returns c s name steps other first second = steps_once name s steps other first second
