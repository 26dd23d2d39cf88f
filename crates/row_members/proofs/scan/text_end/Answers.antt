use Rattle.std.proofs.Common.{arith}
use Rattle.row_members.proofs.Pieces.{text_holds}
use Rattle.row_members.proofs.scan.text_end.Goals as goal

pub returns-then-line-stop-eq34 : goal.returns-then-line-stop-eq34
returns-then-line-stop-eq34 c =
    text_holds c.args.line.now c.args.start c.plain_run.result.length (omega arith) c.if-line-start-ne34.false c.plain_run.ensures.plain
    (omega arith) c.if-line-stop-eq34.true
