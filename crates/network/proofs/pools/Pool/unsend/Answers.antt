use Rattle.network.proofs.Bags.{IsBag-unsent}
use Rattle.network.proofs.pools.Pool.unsend.Goals as goal

pub invariant_of-self-2 : goal.invariant_of-self-2
invariant_of-self-2 c = rw c.remove.ensures.after (IsBag-unsent c.self.inside.sent c.self.inside.limit c.in_ok-last.last c.self.inside.flights c.in_ok-last.ensures.1 c.self.invariant)
