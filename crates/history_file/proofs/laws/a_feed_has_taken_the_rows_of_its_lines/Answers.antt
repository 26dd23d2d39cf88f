use Rattle.history_file.proofs.TakenLines.{stands_taken, leaves_taken, answers_taken}
use Rattle.history_file.proofs.laws.a_feed_has_taken_the_rows_of_its_lines.Goals as goal

pub returns-clause-lines : goal.returns-clause-lines
returns-clause-lines g c = λ bytes feed s. stands_taken g.T.TakesRows.HasTaken bytes feed s

pub returns-clause-before : goal.returns-clause-before
returns-clause-before g c = λ bytes result history h. leaves_taken g.T.TakesRows.HasTaken bytes result history h

pub returns-clause-file : goal.returns-clause-file
returns-clause-file g c = λ bytes result h. answers_taken g.T.TakesRows.HasTaken bytes result h
