use Rattle.std.proofs.Common.{refl}
use Rattle.fault_script.specs.Says.{nothing_more}
use Rattle.fault_script.proofs.words.nothing_more.Goals as goal

pub returns-in-Some : goal.returns-in-Some
unfolding nothing_more
returns-in-Some c = rw c.in-Some.ensures.words refl

pub returns-in-None : goal.returns-in-None
unfolding nothing_more
returns-in-None c = rw c.in-None.ensures.words refl
