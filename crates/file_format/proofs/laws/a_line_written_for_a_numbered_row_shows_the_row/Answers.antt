use Rattle.file_format.proofs.TakenLines.{numbered_taken}
use Rattle.file_format.proofs.laws.a_line_written_for_a_numbered_row_shows_the_row.Goals as goal

pub returns : goal.returns
returns c = λ line numbered text h. numbered_taken line numbered text h
