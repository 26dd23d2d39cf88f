use Rattle.std.proofs.Common.{rules}
use Rattle.command_line.specs.Reading.{IsNone, rows_in}
use Rattle.command_line.specs.Words.{AsksCheck}
use Rattle.command_line.proofs.CommandNames.{none_made}
use Rattle.command_line.proofs.Numbers.{none_found}
use Rattle.command_line.proofs.words.check_in.Goals as goal

pub returns-in_err-count : goal.returns-in_err-count
returns-in_err-count c =
    let rows = rows_in c.args.matches.now in
    let none : IsNone (AsksCheck rows) = λ asked asks. c.in_err-count.ensures asked.workers asks.workers in
    none_found _ c.from_residual-in_err-count.result _ c.from_residual-in_err-count.ensures.1 (none_made _ rows (search rules))
