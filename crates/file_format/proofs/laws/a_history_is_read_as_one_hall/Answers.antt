use Rattle.file_format.proofs.OneHall.{read_too}
use Rattle.file_format.proofs.laws.a_history_is_read_as_one_hall.Goals as goal

pub returns : goal.returns
returns c = λ bytes history h. read_too bytes history h
