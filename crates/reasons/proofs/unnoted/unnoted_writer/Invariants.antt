use Rattle.reasons.proofs.UnnotedWrites.{NoneBelow}
use Rattle.reasons.proofs.unnoted.unnoted_writer.Given as goal

abbrev pub invariant-loop-k : goal.invariant-loop-k
invariant-loop-k l = NoneBelow l.part l.read l.k
