use Rattle.fault_script.proofs.FormsBack.{command_back, command_there}
use Rattle.fault_script.proofs.laws.a_command_is_read_where_its_words_say_it.Goals as goal

pub returns : goal.returns
returns c = λ verb args command. (command_back verb args command, command_there verb args command)
