use Rattle.std.proofs.Common.{rules}
use Rattle.command_line.specs.Reading.{IsNone, rows_in}
use Rattle.command_line.specs.Words.{AsksMonitor}
use Rattle.command_line.proofs.CommandNames.{none_made}
use Rattle.command_line.proofs.Numbers.{none_found}
use Rattle.command_line.proofs.words.monitor_in.Goals as goal

pub returns-in_err-give_up : goal.returns-in_err-give_up
returns-in_err-give_up c =
    let rows = rows_in c.args.matches.now in
    let none : IsNone (AsksMonitor rows) = λ asked asks. c.in_err-give_up.ensures asked.give_up asks.give_up in
    none_found _ c.from_residual.result _ c.from_residual.ensures.1 (none_made _ rows (search rules))
