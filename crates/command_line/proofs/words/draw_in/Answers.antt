use Rattle.std.proofs.Common.{rules}
use Rattle.command_line.specs.Reading.{IsNone, rows_in}
use Rattle.command_line.specs.Words.{AsksDrawing}
use Rattle.command_line.proofs.CommandNames.{none_made}
use Rattle.command_line.proofs.Numbers.{none_found}
use Rattle.command_line.proofs.words.draw_in.Goals as goal

pub returns-in_err-calls : goal.returns-in_err-calls
returns-in_err-calls c =
    let rows = rows_in c.args.matches.now in
    let none : IsNone (AsksDrawing rows) = λ asked asks. c.in_err-calls.ensures asked.calls asks.calls in
    none_found _ c.from_residual-in_err-calls.result _ c.from_residual-in_err-calls.ensures.1 (none_made _ rows (search rules))

pub returns-in_err-whole : goal.returns-in_err-whole
returns-in_err-whole c =
    let rows = rows_in c.args.matches.now in
    let none : IsNone (AsksDrawing rows) = λ asked asks. c.in_err-whole.ensures asked.whole asks.whole in
    none_found _ c.from_residual-in_err-whole.result _ c.from_residual-in_err-whole.ensures.1 (none_made _ rows (search rules))
