use Rattle.std.proofs.lemmas.Option.{slice_get-get_or}
use Rattle.reasons.proofs.ListedCalls.{stands, unknown_here}
use Rattle.reasons.proofs.listed.Listed.call_at.Goals as goal

pub unreachable-requires : goal.unreachable-requires
unreachable-requires c =
    let s = c.args.self.now in
    let at = slice_get-get_or s.order.now c.args.place _ c.requires.within in
    c.requires.known (unknown_here s.part.now s.order.now c.args.place _ at c.in-None.ensures.none)

pub returns : goal.returns
returns c =
    let s = c.args.self.now in
    let at = slice_get-get_or s.order.now c.args.place _ c.requires.within in
    stands s.part.now s.order.now c.args.place _ c.in-Some.call at c.in-Some.ensures.found
