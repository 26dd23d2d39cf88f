use Rattle.file_format.proofs.TakenLines.{piece_taken}
use Rattle.file_format.proofs.laws.a_line_written_for_a_piece_shows_it.Goals as goal

pub returns : goal.returns
returns c = λ line piece h. piece_taken line piece h
