use Rattle.file_format.proofs.HallFaults.{hall_row_fault}
use Rattle.file_format.proofs.laws.a_row_of_a_hall_has_the_fault_of_its_members.Goals as goal

pub returns : goal.returns
returns c = λ header d fault. hall_row_fault header d fault
