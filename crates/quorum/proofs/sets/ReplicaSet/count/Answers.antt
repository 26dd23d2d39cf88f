use Rattle.std.proofs.Common.{ap, ◌∙◌}
use Rattle.std.proofs.lemmas.Nat.{ones-le}
use Rattle.std.specs.FinSet as finite
use Rattle.quorum.proofs.BitLemmas.{len-set_of_bits}
use Rattle.quorum.proofs.sets.ReplicaSet.count.Goals as goal

pub returns-clause-size : goal.returns-clause-size
returns-clause-size c = len-set_of_bits c.self.inside.bits c.self.invariant ∙ ap finite.len c.self.view_is

pub returns-clause-most : goal.returns-clause-most
returns-clause-most c = ones-le 15 c.self.inside.bits c.self.invariant
