use Rattle.std.proofs.Common.{arith, rules}
use Rattle.certificate_check.proofs.Stands.{pending_more, place_within}
use Rattle.certificate_check.proofs.listing.Listing.first_pending_read.Goals as goal

pub loop-i-preserved : goal.loop-i-preserved
loop-i-preserved c =
    let here = c.state_at.ensures in
    let reads = c.is_pending_read.ensures here.0 here.2 in
    pending_more c.args.self.now.part.now c.args.self.now.order.now c.args.self.now.sequence _ here.0 here.1 (search rules) c.loop-i.invariant

pub returns : goal.returns
returns c = λ n p. c.loop-i.invariant n (omega (arith, place_within _ _ n p.0 p.1)) p
