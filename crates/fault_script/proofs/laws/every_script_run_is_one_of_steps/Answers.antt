use Rattle.fault_script.proofs.laws.every_script_run_is_one_of_steps.Goals as goal

pub returns : goal.returns
returns c = λ script last messages runs. c.every_run_is_one_of_steps.ensures script last runs.events runs.happen
