use Rattle.std.proofs.Common.{map}
use Rattle.seats.specs.Comparisons.{AreInvocations}
use Rattle.seats.proofs.comparing.are_invocations.Given as goal

abbrev pub invariant-loop-place : goal.invariant-loop-place
invariant-loop-place l = AreInvocations l.history.rows l.client l.place (map (λ e. e.now) l.entries) l.count
