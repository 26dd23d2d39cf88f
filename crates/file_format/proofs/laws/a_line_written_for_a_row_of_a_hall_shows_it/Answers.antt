use Rattle.file_format.proofs.TakenLines.{hall_row_taken}
use Rattle.file_format.proofs.laws.a_line_written_for_a_row_of_a_hall_shows_it.Goals as goal

pub returns : goal.returns
returns c = λ header line item h. hall_row_taken header line item h
