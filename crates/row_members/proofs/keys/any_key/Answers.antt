use Rattle.std.proofs.Common.{arith}
use Rattle.row_members.proofs.MemberKeys.{keyed, skip_none}
use Rattle.row_members.proofs.keys.any_key.Goals as goal

pub returns : goal.returns
returns c =
    let text = c.in_ok-end.ensures in
    keyed c.args.line.now _ c.args.from c.args.from c.in_ok-end.end c.in_ok-next.next c.name_of-name.result
    (skip_none c.args.line.now c.args.from (omega (arith, text.1.ahead, text.1.within))) text.1 c.name_of-name.ensures
    c.in_ok-next.ensures
