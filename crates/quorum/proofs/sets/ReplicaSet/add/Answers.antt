use Rattle.std.proofs.Common.{◌<◌, ap, ◌∙◌, arith}
use Rattle.std.specs.FinSet as finite
use Rattle.quorum.proofs.BitLemmas.{or-fits, set_of_bits-or}
use Rattle.quorum.proofs.sets.ReplicaSet.add.Goals as goal

pub invariant_of-self : goal.invariant_of-self
invariant_of-self c =
    let small : c.get.result < 15 = omega (arith, c.get.ensures.most) in
    or-fits c.self.inside.bits c.get.result c.self.invariant small

pub returns : goal.returns
returns c =
    let small : c.get.result < 15 = omega (arith, c.get.ensures.most) in
    set_of_bits-or c.self.inside.bits c.get.result small
    ∙ ap (λ set. finite.insert set c.get.result) c.self.view_is
    ∙ ap (finite.insert c.args.self.now) c.get.ensures.number
