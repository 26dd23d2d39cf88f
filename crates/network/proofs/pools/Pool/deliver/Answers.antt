use Rattle.std.proofs.Common.{◌≡◌, ◌≤◌, ◌-◌, Some, sym, arith}
use Rattle.std.specs.FinMap as finite
use Rattle.network.proofs.Bags.{IsBag-remove, IsBag-set_copies}
use Rattle.network.proofs.pools.Pool.deliver.Goals as goal

pub invariant_of-self : goal.invariant_of-self
invariant_of-self c = rw c.remove.ensures.after (IsBag-remove c.self.inside.sent c.self.inside.limit c.self.inside.flights c.args.number c.self.invariant)

pub invariant_of-self-2 : goal.invariant_of-self-2
invariant_of-self-2 c =
    let flight = c.in-Some.flight.now in
    let found : finite.get c.self.inside.flights c.args.number ≡ Some flight = sym c.in-Some.ensures in
    let least : 1 ≤ flight.copies = c.self.invariant.least c.args.number flight found in
    let most : flight.copies ≤ 1000 = c.self.invariant.most c.args.number flight found in
    IsBag-set_copies c.self.inside.sent c.self.inside.limit c.self.inside.flights c.set_copies.new.self c.args.number (flight.copies - 1) flight c.self.invariant found c.set_copies.ensures (omega arith) (omega arith)
