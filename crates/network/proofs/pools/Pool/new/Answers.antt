use Rattle.network.proofs.Bags.{IsBag-silent}
use Rattle.network.proofs.pools.Pool.new.Goals as goal

pub invariant_of-result : goal.invariant_of-result
invariant_of-result c = rw c.new.ensures (IsBag-silent c.args.limit)
