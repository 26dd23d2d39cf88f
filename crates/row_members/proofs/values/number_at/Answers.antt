use Rattle.row_members.proofs.MemberValues.{number_holds}
use Rattle.row_members.proofs.Pieces.{to_end}
use Rattle.row_members.proofs.values.number_at.Goals as goal

pub returns-then-is_ended : goal.returns-then-is_ended
returns-then-is_ended c =
    let line = c.args.line.now in
    number_holds line _ c.args.start c.in_ok-number.number c.in_ok-number.count (to_end line c.args.start) c.requires
    c.in_ok-number.ensures.found (c.is_ended.ensures c.if-is_ended.true)
