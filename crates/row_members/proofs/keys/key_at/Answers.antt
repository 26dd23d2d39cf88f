use Rattle.std.proofs.Common.{Some, refl}
use Rattle.row_members.specs.Names.{text_of}
use Rattle.row_members.proofs.MemberKeys.{keyed, skip_key}
use Rattle.row_members.proofs.Pieces.{weaker}
use Rattle.row_members.proofs.keys.key_at.Goals as goal

pub returns-in-Some : goal.returns-in-Some
returns-in-Some c =
    let name = c.in-Some.name in
    keyed c.args.line.now (text_of name) c.args.start c.after_space-from.result c.in-Some.end c.in_ok-after.after (Some name)
    c.after_space-from.ensures c.in-Some.ensures refl c.in_ok-after.ensures

pub returns : goal.returns
returns c =
    weaker (λ f h. skip_key c.args.line.now c.args.start c.after_space-from.result f.1 f.0 c.after_space-from.ensures h) c.any_key.result
    c.any_key.ensures
