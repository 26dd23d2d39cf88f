use Rattle.draw_command.proofs.section.Saying.append_said.Goals as goal

pub returns-then-folded : goal.returns-then-folded
returns-then-folded c = rw c.if-folded.true c.append_folded.ensures

pub returns-else-folded : goal.returns-else-folded
returns-else-folded c = rw c.if-folded.false c.append_open.ensures
