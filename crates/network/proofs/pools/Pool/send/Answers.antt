use Rattle.network.proofs.Bags.{IsBag-sent}
use Rattle.network.proofs.pools.Pool.send.Goals as goal

pub invariant_of-self-2 : goal.invariant_of-self-2
invariant_of-self-2 c = IsBag-sent c.self.inside.sent c.self.inside.limit c.self.inside.flights c.insert.new.self c.args.message c.self.invariant c.if-self.false c.in_ok-insert.ensures.ok
