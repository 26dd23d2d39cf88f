use Rattle.std.proofs.Common.{ℕ, List, ◌++◌, decimal, sym, ap, ◌∙◌}
use Rattle.row_members.proofs.Pieces.{to_end}
use Rattle.file_format.proofs.beginnings.first_number.Goals as goal

pub returns : goal.returns
returns c =
    let number = c.in_ok-number.number in
    c.in_ok-number.ensures.found.spelled
    ∙ ap (λ (s : List ℕ). decimal number ++ s) (sym (to_end c.args.bytes.now c.in_ok-number.count))
