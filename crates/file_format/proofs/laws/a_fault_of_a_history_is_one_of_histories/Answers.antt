use Rattle.file_format.proofs.OneHall.{first_fault_too}
use Rattle.file_format.proofs.laws.a_fault_of_a_history_is_one_of_histories.Goals as goal

pub returns : goal.returns
returns c = λ bytes n fault other h. first_fault_too bytes n fault other h
