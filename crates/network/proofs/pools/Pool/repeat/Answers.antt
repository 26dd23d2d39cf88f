use Rattle.std.proofs.Common.{◌+◌, arith}
use Rattle.network.proofs.Bags.{IsBag-change_copies}
use Rattle.network.proofs.pools.Pool.repeat.Goals as goal

pub invariant_of-self : goal.invariant_of-self
invariant_of-self c =
    IsBag-change_copies c.self.inside.sent c.self.inside.limit c.self.inside.flights c.set_copies.new.self c.args.number c.copies.result (c.copies.result + 1)
    c.self.invariant (rw (← c.self.view_is) at c.copies.ensures.copies) (omega arith) c.set_copies.ensures (omega arith) (omega arith)
