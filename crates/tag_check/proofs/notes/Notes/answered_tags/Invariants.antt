use Rattle.tag_check.specs.Greatest.{AreAnsweredTags}
use Rattle.tag_check.proofs.notes.Notes.answered_tags.Given as goal

abbrev pub invariant-loop-i : goal.invariant-loop-i
invariant-loop-i l = AreAnsweredTags l.self.part.now l.i l.tags.items
