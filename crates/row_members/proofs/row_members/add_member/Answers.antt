use Rattle.std.proofs.Common.{ℕ, List, subst}
use Rattle.row_members.specs.Scans.{HoldsKey}
use Rattle.row_members.proofs.Entries.{added}
use Rattle.row_members.proofs.row_members.add_member.Goals as goal

pub returns : goal.returns
returns c =
    let name = c.in_ok-name.name in
    let next = c.in_ok-name.next in
    added c.args.text.now c.args.start next c.in_ok-member.end _ _ name c.in_ok-member.member
    (subst (λ (line : List ℕ). HoldsKey line c.args.start name next) c.as_bytes.ensures.value c.in_ok-name.ensures)
    c.in_ok-member.ensures c.put.ensures
