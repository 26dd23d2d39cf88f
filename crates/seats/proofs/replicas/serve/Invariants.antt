use Rattle.std.proofs.Common.{◌≡◌, length}
use Rattle.seats.proofs.replicas.serve.Given as goal

abbrev pub invariant-loop : goal.invariant-loop
invariant-loop g l = length l.passes.items ≡ l.halls
