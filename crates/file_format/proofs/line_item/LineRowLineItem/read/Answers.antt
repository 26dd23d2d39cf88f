use Rattle.file_format.proofs.TakenLines.{row_taken}
use Rattle.file_format.proofs.line_item.LineRowLineItem.read.Goals as goal

pub returns-in-Some : goal.returns-in-Some
returns-in-Some c = row_taken c.args.line.now c.in-Some.row (rw c.in-Some.is at c.in_ok-row.ensures)
