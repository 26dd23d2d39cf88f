use Rattle.std.proofs.Common.{◌<◌, length, arith}
use Rattle.tag.proofs.Lists.{get_at, item_at}
use Rattle.value_order.proofs.placed.PlacedPart.places.Goals as goal

pub returns : goal.returns
returns c =
    let part = c.self.inside.part.now in
    let places = c.self.inside.places.items in
    let small : c.args.index < length part = rw (← c.self.view_is) at c.requires in
    let call = get_at part c.args.index small in
    let here = item_at places c.args.index c.index.result.now (omega (arith, small, c.self.invariant.all)) c.index.ensures in
    rw (← c.self.view_is) (call.0, call.1, c.self.invariant.each c.args.index call.0 c.index.result.now call.1 here)
