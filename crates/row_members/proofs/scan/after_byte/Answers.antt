use Rattle.row_members.proofs.Pieces.{pass_at}
use Rattle.row_members.proofs.scan.after_byte.Goals as goal

pub returns-then-line-at : goal.returns-then-line-at
returns-then-line-at c =
    pass_at c.args.line.now c.args.start c.after_space-at.result c.args.byte c.after_space-at.ensures c.if-at-line.true
    c.if-line-at.true
