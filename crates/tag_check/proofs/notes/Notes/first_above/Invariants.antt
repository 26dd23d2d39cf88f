use Rattle.tag_check.proofs.Calls.{NoneBelow}
use Rattle.tag_check.specs.Rules.{IsNotAbove}
use Rattle.tag_check.proofs.notes.Notes.first_above.Given as goal

abbrev pub invariant-loop-i : goal.invariant-loop-i
invariant-loop-i l = NoneBelow l.self.part.now (λ earlier. IsNotAbove earlier l.later) l.i
