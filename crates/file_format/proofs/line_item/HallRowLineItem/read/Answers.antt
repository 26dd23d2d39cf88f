use Rattle.file_format.proofs.TakenLines.{hall_row_taken}
use Rattle.file_format.proofs.line_item.HallRowLineItem.read.Goals as goal

pub returns-in-Some : goal.returns-in-Some
returns-in-Some c = hall_row_taken c.args.header c.args.line.now c.in-Some.row (rw c.in-Some.is at c.in_ok-row.ensures)
