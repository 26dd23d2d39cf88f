use Rattle.command_line.proofs.Numbers.{none_found}
use Rattle.command_line.proofs.words.keys_in.Goals as goal

pub returns-in_err-most : goal.returns-in_err-most
returns-in_err-most c = none_found _ c.from_residual-in_err-most.result _ c.from_residual-in_err-most.ensures.1 (λ asked asks. c.in_err-most.ensures asked.most (rw c.from.ensures asks.most))
