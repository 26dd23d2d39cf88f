use Rattle.history_file.proofs.NumberedLines.{kept_lines}
use Rattle.history_file.proofs.laws.a_row_stands_on_its_line.Goals as goal

pub returns : goal.returns
returns c = λ header items numbered made hall history lines there at. kept_lines header items numbered made hall history lines there at
