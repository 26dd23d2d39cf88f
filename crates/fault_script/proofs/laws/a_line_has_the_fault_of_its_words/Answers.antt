use Rattle.fault_script.proofs.LineFaults.{word_fault}
use Rattle.fault_script.proofs.laws.a_line_has_the_fault_of_its_words.Goals as goal

pub returns : goal.returns
returns c = λ before verb args fault. word_fault before verb args fault
