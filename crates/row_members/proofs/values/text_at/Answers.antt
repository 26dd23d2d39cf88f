use Rattle.std.proofs.Common.{ℕ, List, subst}
use Rattle.row_members.specs.Scans.{HoldsText}
use Rattle.row_members.proofs.MemberValues.{text_value}
use Rattle.row_members.proofs.values.text_at.Goals as goal

pub returns : goal.returns
returns c =
    text_value c.args.text.now c.in_ok-inside.inside.now c.args.start c.in_ok-end.end
    (subst (λ (line : List ℕ). HoldsText line c.args.start c.in_ok-end.end) c.as_bytes.ensures.value c.in_ok-end.ensures)
    c.in_ok-inside.ensures.cases.0
