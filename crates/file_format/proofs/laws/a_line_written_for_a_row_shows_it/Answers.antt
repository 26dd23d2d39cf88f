use Rattle.file_format.proofs.TakenLines.{row_taken}
use Rattle.file_format.proofs.laws.a_line_written_for_a_row_shows_it.Goals as goal

pub returns : goal.returns
returns c = λ line row h. row_taken line row h
