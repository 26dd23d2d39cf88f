use Rattle.std.proofs.Common.{map}
use Rattle.seats.specs.Comparisons.{ResponsesMatch}
use Rattle.seats.proofs.comparing.have_responses.Given as goal

abbrev pub invariant-loop-entry : goal.invariant-loop-entry
invariant-loop-entry l = ResponsesMatch l.history.rows (map (λ e. e.now) l.entries) l.entry-index
