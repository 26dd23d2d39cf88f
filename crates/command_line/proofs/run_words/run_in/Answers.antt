use Rattle.std.proofs.Common.{length}
use Rattle.command_line.proofs.Numbers.{none_found_or_lacked}
use Rattle.command_line.proofs.run_words.run_in.Goals as goal

pub returns-in_err-replicas : goal.returns-in_err-replicas
returns-in_err-replicas c = none_found_or_lacked _ c.from_residual.result _ c.from_residual.ensures.1 (λ asked asks. c.in_err-replicas.ensures (length asked.load.quorums.votes) asks.replicas)

pub returns-in_err-halls : goal.returns-in_err-halls
returns-in_err-halls c = none_found_or_lacked _ c.from_residual-in_err-halls.result _ c.from_residual-in_err-halls.ensures.1 (λ asked asks. c.in_err-halls.ensures asked.load.halls asks.halls)

pub returns-in_err-number_in : goal.returns-in_err-number_in
returns-in_err-number_in c = none_found_or_lacked _ c.from_residual-in_err-number_in.result _ c.from_residual-in_err-number_in.ensures.1 (λ asked asks. c.in_err-number_in.ensures asked.load.rounds asks.rounds)

pub returns-in_err-number_in-2 : goal.returns-in_err-number_in-2
returns-in_err-number_in-2 c = none_found_or_lacked _ c.from_residual-in_err-number_in-2.result _ c.from_residual-in_err-number_in-2.ensures.1 (λ asked asks. c.in_err-number_in-2.ensures asked.load.callers asks.callers)

pub returns-in_err-number_in-3 : goal.returns-in_err-number_in-3
returns-in_err-number_in-3 c = none_found_or_lacked _ c.from_residual-in_err-number_in-3.result _ c.from_residual-in_err-number_in-3.ensures.1 (λ asked asks. c.in_err-number_in-3.ensures asked.load.calls asks.calls)

pub returns-in_err-number_in-4 : goal.returns-in_err-number_in-4
returns-in_err-number_in-4 c = none_found_or_lacked _ c.from_residual-in_err-number_in-4.result _ c.from_residual-in_err-number_in-4.ensures.1 (λ asked asks. c.in_err-number_in-4.ensures asked.load.keys asks.keys)

pub returns-in_err-number_in-5 : goal.returns-in_err-number_in-5
returns-in_err-number_in-5 c = none_found_or_lacked _ c.from_residual-in_err-number_in-5.result _ c.from_residual-in_err-number_in-5.ensures.1 (λ asked asks. c.in_err-number_in-5.ensures asked.load.drop asks.drop)

pub returns-in_err-number_in-6 : goal.returns-in_err-number_in-6
returns-in_err-number_in-6 c = none_found_or_lacked _ c.from_residual-in_err-number_in-6.result _ c.from_residual-in_err-number_in-6.ensures.1 (λ asked asks. c.in_err-number_in-6.ensures asked.load.double asks.double)
