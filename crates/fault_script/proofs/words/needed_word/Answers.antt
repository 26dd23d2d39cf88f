use Rattle.std.proofs.Common.{refl}
use Rattle.fault_script.specs.Says.{needed_word}
use Rattle.fault_script.proofs.words.needed_word.Goals as goal

pub returns-in-Some-clause-word : goal.returns-in-Some-clause-word
unfolding needed_word
returns-in-Some-clause-word c = rw c.in-Some.ensures.words refl

pub returns-in-None-clause-word : goal.returns-in-None-clause-word
unfolding needed_word
returns-in-None-clause-word c = rw c.in-None.ensures.words refl
