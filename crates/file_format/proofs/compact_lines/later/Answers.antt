use Rattle.std.proofs.Common.{ℕ, List, IfSome, ap, sym, ◌∙◌, subst}
use Rattle.file_format.specs.RowTexts.{after_call, after_marks}
use Rattle.file_format.specs.SaidRows.{IsSaidBy}
use Rattle.file_format.proofs.compact_lines.later.Goals as goal

pub returns : goal.returns
returns c =
    let whole = c.in_ok-marks.ensures.text ∙ ap (λ (s : List ℕ). after_marks c.in_ok-marks.marks s) c.in_ok-rest.ensures in
    subst (λ (bytes : List ℕ). IfSome c.response.result (IsSaidBy (after_call c.args.op bytes))) (sym whole) c.response.ensures
