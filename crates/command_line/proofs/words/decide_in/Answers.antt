use Rattle.std.proofs.Common.{rules}
use Rattle.command_line.specs.Reading.{IsNone, rows_in}
use Rattle.command_line.specs.Words.{AsksDecision}
use Rattle.command_line.proofs.CommandNames.{none_made}
use Rattle.command_line.proofs.Numbers.{none_found_or_lacked}
use Rattle.command_line.proofs.words.decide_in.Goals as goal

pub returns-in_err-most : goal.returns-in_err-most
returns-in_err-most c =
    let rows = rows_in c.args.matches.now in
    let none : IsNone (AsksDecision rows) = λ asked asks. c.in_err-most.ensures asked.most asks.most in
    none_found_or_lacked _ c.from_residual-in_err-most.result _ c.from_residual-in_err-most.ensures.1 (none_made _ rows (search rules))
