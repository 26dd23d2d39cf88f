use Rattle.world_steps.specs.Systems.{opening}
use Rattle.script_runs.proofs.Chains.{all_in_order}
use Rattle.script_runs.proofs.laws.each_step_comes_after_the_last.Goals as goal

pub returns : goal.returns
returns c = λ script last events happen. all_in_order (opening script.config) last script.commands.items events happen
