use Rattle.file_format.proofs.SayingRows.{row_back, row_there}
use Rattle.file_format.proofs.laws.a_row_is_read_where_its_members_say_it.Goals as goal

pub returns : goal.returns
returns c = λ d row. (row_back d row, row_there d row)
