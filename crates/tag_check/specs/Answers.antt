-- What a call answers, beside what its tag stands for.
use Rattle.std.specs.Prelude.{List}
use Rattle.recorder.specs.declared.part.Call.{Call}
use Rattle.tag_check.specs.declared.notes.Answer.{Answer}
use Rattle.tag_check.specs.declared.notes.Answer.TheVariants as answer
use Rattle.tag_check.specs.Rules.{AnswersNoWrite, AnswersRight, AnswersOther}

-- a call answers what its tag stands for, or is a read under a tag that no write has, or answers
-- another value, whose write is named
abbrev pub IsAnswer : List Call → Call → Answer → Type 0
IsAnswer part call answer.Right = AnswersRight part call × (AnswersNoWrite part call → ⊥)
IsAnswer part call answer.NoWrite = AnswersNoWrite part call
IsAnswer part call (answer.Other write) =
    AnswersOther part call write × (AnswersNoWrite part call → ⊥)
