use Rattle.row_members.proofs.MemberKeys.{name_holds}
use Rattle.row_members.proofs.Pieces.{to_end}
use Rattle.row_members.proofs.keys.name_at.Goals as goal

pub returns-then-begins_with : goal.returns-then-begins_with
returns-then-begins_with g c =
    let line = c.args.line.now in
    name_holds line _ c.args.quoted.now c.args.at _ c.args.name (to_end line c.args.at) c.requires.within c.requires.text
    (c.begins_with.ensures.begins c.if-begins_with.true) (c.begins_with.ensures.within c.if-begins_with.true)
