use Rattle.file_format.proofs.LineFaults.{row_fault}
use Rattle.file_format.proofs.laws.a_row_has_the_fault_of_its_members.Goals as goal

pub returns : goal.returns
returns c = λ d fault. row_fault d fault
