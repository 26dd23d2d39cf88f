use Rattle.std.proofs.Common.{rules}
use Rattle.command_line.specs.Reading.{IsNone, rows_in}
use Rattle.command_line.specs.Words.{AsksSplit}
use Rattle.command_line.proofs.CommandNames.{none_made}
use Rattle.command_line.proofs.Numbers.{none_found}
use Rattle.command_line.proofs.words.split_in.Goals as goal

pub returns-in_err-parts : goal.returns-in_err-parts
returns-in_err-parts c =
    let rows = rows_in c.args.matches.now in
    let none : IsNone (AsksSplit rows) = λ asked asks. c.in_err-parts.ensures asked.parts asks.parts in
    none_found _ c.from_residual.result _ c.from_residual.ensures.1 (none_made _ rows (search rules))
