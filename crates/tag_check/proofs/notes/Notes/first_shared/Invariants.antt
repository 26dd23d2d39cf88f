use Rattle.tag_check.specs.Least.{HasPartner}
use Rattle.tag_check.specs.Rules.{ShareTag}
use Rattle.tag_check.proofs.Calls.{NoneBelow}
use Rattle.tag_check.proofs.notes.Notes.first_shared.Given as goal

abbrev pub invariant-loop-i : goal.invariant-loop-i
invariant-loop-i l = NoneBelow l.self.part.now (HasPartner l.self.part.now ShareTag) l.i
