use Rattle.file_format.proofs.LineFaults.{piece_fault}
use Rattle.file_format.proofs.laws.a_piece_has_the_fault_of_its_members.Goals as goal

pub returns : goal.returns
returns c = λ d fault. piece_fault d fault
