use Rattle.file_format.specs.Rows.{row_in}
use Rattle.file_format.proofs.Once.{shows_once}
use Rattle.file_format.proofs.laws.a_line_shows_one_row_or_fault.Goals as goal

pub returns : goal.returns
returns c = λ line a b h k. shows_once row_in line a b h k
