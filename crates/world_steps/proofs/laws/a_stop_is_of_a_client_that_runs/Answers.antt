use Rattle.world_steps.proofs.RunningCounts.{running_moved}
use Rattle.world_steps.proofs.laws.a_stop_is_of_a_client_that_runs.Goals as goal

pub returns : goal.returns
returns c = running_moved
