use Rattle.tag_check.specs.Rules.{AnswersNoWrite}
use Rattle.tag_check.proofs.Calls.{NoneBelow}
use Rattle.tag_check.proofs.Values.{IsFirstOther}
use Rattle.tag_check.proofs.notes.Notes.first_other_value.Given as goal

abbrev pub invariant-loop-i : goal.invariant-loop-i
invariant-loop-i l = record {
  written : NoneBelow l.self.part.now (AnswersNoWrite l.self.part.now) l.i;
  first : IsFirstOther l.self.part.now l.i l.other;
}
