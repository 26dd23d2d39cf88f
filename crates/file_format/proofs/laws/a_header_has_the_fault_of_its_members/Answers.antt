use Rattle.file_format.proofs.LineFaults.{header_fault}
use Rattle.file_format.proofs.laws.a_header_has_the_fault_of_its_members.Goals as goal

pub returns : goal.returns
returns c = λ name d fault. header_fault name d fault
