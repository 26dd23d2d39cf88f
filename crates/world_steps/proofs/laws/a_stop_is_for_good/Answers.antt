use Rattle.world_steps.proofs.Stopping.{next_stopped, still_stopped}
use Rattle.world_steps.proofs.laws.a_stop_is_for_good.Goals as goal

pub returns-clause-next : goal.returns-clause-next
returns-clause-next c s step name is = next_stopped s name is step

pub returns-clause-steps : goal.returns-clause-steps
returns-clause-steps c = still_stopped
