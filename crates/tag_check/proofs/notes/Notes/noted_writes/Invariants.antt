use Rattle.tag_check.specs.Least.{IsFirstBefore}
use Rattle.tag_check.specs.Rules.{LacksNote, IsLeastWrite}
use Rattle.tag_check.specs.Writes.{AreNoted}
use Rattle.tag_check.proofs.Calls.{NoneBelow}
use Rattle.tag_check.proofs.notes.Notes.noted_writes.Given as goal

abbrev pub invariant-loop-i : goal.invariant-loop-i
invariant-loop-i l = record {
  complete : NoneBelow l.self.part.now LacksNote l.i;
  least : IsFirstBefore l.self.part.now IsLeastWrite l.i l.least;
  noted : AreNoted l.self.part.now l.i l.noted.items;
}
