use Rattle.std.proofs.Common.{arith}
use Rattle.network.proofs.Bags.{len-below}
use Rattle.network.proofs.pools.Pool.stored.Goals as goal

pub prove-unreachable-requires : goal.prove-unreachable-requires
prove-unreachable-requires c = omega (arith, len-below c.self.inside.sent c.self.inside.flights c.self.invariant.given, c.len-stored.ensures, c.if-prove.true)
