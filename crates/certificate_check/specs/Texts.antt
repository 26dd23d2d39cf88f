-- Verdicts as texts.
use Rattle.std.specs.Prelude.{ℕ, List, [], ◌++◌, codes, decimal}
use Rattle.certificate_check.specs.declared.verdict.Verdict.{Verdict}
use Rattle.certificate_check.specs.declared.verdict.Verdict.TheVariants.{Yes, No}
use Rattle.certificate_check.specs.declared.verdict.Fault.{Fault}
use Rattle.certificate_check.specs.declared.verdict.Fault.TheVariants.{UnknownCall, CallTwice}
use Rattle.certificate_check.specs.declared.verdict.Fault.TheVariants.{MissingCall, PendingRead}
use Rattle.certificate_check.specs.declared.verdict.Fault.TheVariants.{WrongAnswer, OrderBroken}

-- what is wrong with an order
abbrev pub fault_text : Fault → List ℕ
fault_text (UnknownCall i) = codes "1 unknown call at " ++ decimal i
fault_text (CallTwice i) = codes "2 call twice at " ++ decimal i
fault_text (MissingCall op) = codes "3 missing call " ++ decimal op.0
fault_text (PendingRead i) = codes "4 pending read at " ++ decimal i
fault_text (WrongAnswer i) = codes "5 wrong answer at " ++ decimal i
fault_text (OrderBroken i j) = codes "6 order broken at " ++ decimal i ++ codes " and " ++ decimal j

-- what the text has after its first number: of two places, the second
abbrev pub rest_text : Fault → List ℕ
rest_text (OrderBroken i j) = codes " and " ++ decimal j
rest_text _ = []

-- a verdict's first word; of a no, what is wrong follows
abbrev pub verdict_word : Verdict → List ℕ
verdict_word Yes = codes "yes"
verdict_word (No fault) = codes "no "

-- a verdict, with what is wrong if it is no
abbrev pub verdict_text : Verdict → List ℕ
verdict_text Yes = verdict_word Yes
verdict_text (No fault) = verdict_word (No fault) ++ fault_text fault
