use Rattle.std.proofs.Common.{ℕ, ◌≡◌, Option, ap, sym, ◌∙◌, subst, arith}
use Rattle.recorder.specs.declared.row.Row.{Row}
use Rattle.file_format.specs.CanonicalLines.{IsHallRowLine}
use Rattle.file_format.specs.FileHeaders.{written_hall}
use Rattle.file_format.specs.RowTexts.{row_bytes}
use Rattle.file_format.specs.SaidRows.{IsSaidBy, row_said}
use Rattle.file_format.proofs.TakenLines.{row_line}
use Rattle.file_format.proofs.compact_lines.written_hall_row.Goals as goal

pub returns-in-Some-2 : goal.returns-in-Some-2
returns-in-Some-2 c =
    let line = c.args.line.now in
    let header = c.args.header.now in
    let said = c.in-Some.said in
    let hall = c.unwrap_or-hall.result in
    let by_line : IsSaidBy line said = rw c.in-Some.is at c.said_row.ensures in
    let same : written_hall header hall ≡ said.hall = sym c.place.ensures ∙ c.is_same.ensures c.if-not-is_same.false in
    let row : c.in-Some-2.row ≡ row_said said = rw c.in-Some-2.is at c.in_ok-row.ensures in
    subst (λ (r : Row). IsHallRowLine header line (record { hall = hall; row = r })) (sym row) (record {
      number = by_line.number;
      numbered = by_line.numbered;
      text = row_line line (record { hall = written_hall header hall; line = by_line.number }) (row_said said) (by_line.text
          ∙ ap (λ (hall : Option ℕ). row_bytes (record { hall = hall; line = by_line.number }) (row_said said)) (sym same));
      hall = omega (arith, c.if-hall-halls.false, c.halls.ensures.count);
      few = omega (arith, c.if-hall-halls.false, c.halls.ensures.most);
      range = by_line.range;
    })
