use Rattle.file_format.proofs.LongHistories.{first_fault_long}
use Rattle.file_format.proofs.laws.a_fault_of_a_history_is_one_at_any_length.Goals as goal

pub returns : goal.returns
returns c = λ bytes n fault other h. first_fault_long bytes n fault other h
