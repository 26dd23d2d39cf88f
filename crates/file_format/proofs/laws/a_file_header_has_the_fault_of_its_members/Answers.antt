use Rattle.file_format.proofs.HallFaults.{file_header_fault}
use Rattle.file_format.proofs.laws.a_file_header_has_the_fault_of_its_members.Goals as goal

pub returns : goal.returns
returns c = λ d fault. file_header_fault d fault
