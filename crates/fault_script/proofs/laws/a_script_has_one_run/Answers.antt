use Rattle.fault_script.proofs.RunLemmas.{run_once}
use Rattle.fault_script.proofs.laws.a_script_has_one_run.Goals as goal

pub returns : goal.returns
returns c = run_once c.commands_have_one_run.ensures
