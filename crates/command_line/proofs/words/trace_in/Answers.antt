-- The flag `--draw` says which of both commands the words make.
use Rattle.command_line.specs.Reading.{rows_in}
use Rattle.command_line.proofs.CommandNames.{none_made, none_traced}
use Rattle.command_line.proofs.Numbers.{none_found}
use Rattle.command_line.proofs.words.trace_in.Goals as goal

pub returns-in_err-asked : goal.returns-in_err-asked
returns-in_err-asked c =
    let rows = rows_in c.args.matches.now in
    none_found _ c.from_residual-in_err-asked.result _ c.from_residual-in_err-asked.ensures.1 (none_made _ rows (none_traced rows
    (λ script most asks. asks.told (c.has_flag.ensures.0 c.if-has_flag.true)) (λ script most asks. c.in_err-asked.ensures asks.asked asks.steps)))

pub returns-in_err-most : goal.returns-in_err-most
returns-in_err-most c =
    let rows = rows_in c.args.matches.now in
    none_found _ c.from_residual-in_err-most.result _ c.from_residual-in_err-most.ensures.1 (none_made _ rows (none_traced rows
    (λ script most asks. c.in_err-most.ensures most asks.lines)
    (λ script most asks. let is = c.has_flag.ensures.1 asks.drawn in let not = c.if-has_flag.false in absurd (cc))))
