use Rattle.world_steps.specs.Systems.{opening}
use Rattle.script_runs.proofs.Chains.{all_in_order, order_steps}
use Rattle.script_runs.proofs.laws.every_run_is_one_of_steps.Goals as goal

pub returns : goal.returns
returns c = λ script last events happen.
    order_steps (opening script.config) last events (all_in_order (opening script.config) last script.commands.items events happen)
