use Rattle.fault_script.proofs.SaidBack.{said_back, said_there}
use Rattle.fault_script.proofs.laws.a_line_is_read_where_its_words_say_it.Goals as goal

pub returns : goal.returns
returns c = λ before verb args said. (said_back before verb args said, said_there before verb args said)
