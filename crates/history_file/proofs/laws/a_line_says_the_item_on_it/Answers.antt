use Rattle.history_file.proofs.NumberedLines.{said_on_line}
use Rattle.history_file.proofs.laws.a_line_says_the_item_on_it.Goals as goal

pub returns : goal.returns
returns c = λ bytes numbered file line item stands. said_on_line bytes numbered file line item stands
