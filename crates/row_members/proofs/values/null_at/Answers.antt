use Rattle.row_members.proofs.MemberValues.{null_holds}
use Rattle.row_members.proofs.Pieces.{to_end}
use Rattle.row_members.proofs.values.null_at.Goals as goal

pub returns-then-is_ended : goal.returns-then-is_ended
returns-then-is_ended c =
    let line = c.args.line.now in
    null_holds line _ c.args.start (to_end line c.args.start) c.requires (c.begins_with.ensures.begins c.if-begins_with.true)
    (c.is_ended.ensures c.if-is_ended.true)
