use Rattle.script_runs.proofs.RunsOnce.{all_once}
use Rattle.script_runs.proofs.laws.commands_have_one_run.Goals as goal

pub returns : goal.returns
returns c = λ first last other commands events others one two.
    all_once c.the_steps_are_one_list.ensures first last other commands events others one two
