use Rattle.std.proofs.Common.{append_assoc}
use Rattle.explanations.proofs.pieces.Subject.say_piece.Goals as goal

pub returns-in-Number : goal.returns-in-Number
returns-in-Number c = rw (c.in-Number.is, append_assoc) c.append_number.ensures

pub returns-in-Op : goal.returns-in-Op
returns-in-Op c = rw (c.in-Op.is, append_assoc) c.append_op.ensures
