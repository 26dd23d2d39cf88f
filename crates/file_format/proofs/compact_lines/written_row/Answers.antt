use Rattle.std.proofs.Common.{ℕ, ◌≡◌, Option, None, ap, sym, ◌∙◌, subst}
use Rattle.recorder.specs.declared.row.Row.{Row}
use Rattle.file_format.specs.CanonicalLines.{IsRowLine}
use Rattle.file_format.specs.RowTexts.{row_bytes}
use Rattle.file_format.specs.SaidRows.{IsSaidBy, row_said}
use Rattle.file_format.proofs.TakenLines.{row_line, found_shows}
use Rattle.file_format.proofs.compact_lines.written_row.Goals as goal

pub returns : goal.returns
returns c =
    let line = c.args.line.now in
    let said = c.in-Some.said in
    let by_line : IsSaidBy line said = rw c.in-Some.is at c.said_row.ensures in
    let alone : said.hall ≡ None = c.is_same.ensures c.if-not-is_same.false in
    let one : IsRowLine line (row_said said) = record {
      number = by_line.number;
      numbered = by_line.numbered;
      text = row_line line (record { hall = None; line = by_line.number }) (row_said said) (by_line.text
          ∙ ap (λ (hall : Option ℕ). row_bytes (record { hall = hall; line = by_line.number }) (row_said said)) alone);
      range = by_line.range;
    } in
    found_shows (λ (row : Row). row ≡ row_said said) (IsRowLine line) c.found.result
    (λ row same. subst (λ (r : Row). IsRowLine line r) (sym same) one) c.found.ensures
