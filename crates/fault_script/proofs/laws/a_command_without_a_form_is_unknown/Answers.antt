use Rattle.fault_script.proofs.FormFaults.{unknown_form, range_form}
use Rattle.fault_script.proofs.laws.a_command_without_a_form_is_unknown.Goals as goal

pub returns-clause-unknown : goal.returns-clause-unknown
returns-clause-unknown c = λ verb args. unknown_form verb args

pub returns-clause-range : goal.returns-clause-range
returns-clause-range c = λ verb args form no. range_form verb args form no
