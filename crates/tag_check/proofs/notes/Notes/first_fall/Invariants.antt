use Rattle.tag_check.specs.Greatest.{HasTagBelow, IsGreatest}
use Rattle.tag_check.specs.Least.{HasPartner}
use Rattle.tag_check.proofs.Calls.{NoneBelow}
use Rattle.tag_check.specs.Rules.{IsNotAbove}
use Rattle.tag_check.proofs.notes.Notes.first_fall.Given as goal

abbrev pub invariant-loop-j : goal.invariant-loop-j
invariant-loop-j l = record {
  greatest : IsGreatest (HasTagBelow l.tags l.j) l.greatest;
  none : NoneBelow l.self.part.now (HasPartner l.self.part.now IsNotAbove) l.j;
}
