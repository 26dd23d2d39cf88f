use Rattle.value_order.proofs.Pairs.{pair_sides, pair_opposed}
use Rattle.value_order.proofs.opposed.first_opposed.Goals as goal

pub pair_at-a-requires-clause-zones : goal.pair_at-a-requires-clause-zones
pair_at-a-requires-clause-zones c = rw c.as_slice.ensures.value c.in_ok-zones.ensures

pub side-requires-clause-there : goal.side-requires-clause-there
side-requires-clause-there c = rw c.as_slice-2.ensures.value (pair_sides c.args.part.now c.attest.ensures c.in_ok-row.row c.in_ok-zones.zones.items c.in_ok-zones.ensures _ _ c.pair_at-a.ensures).0

pub side-requires-2-clause-there : goal.side-requires-2-clause-there
side-requires-2-clause-there c = rw c.as_slice-3.ensures.value (pair_sides c.args.part.now c.attest.ensures c.in_ok-row.row c.in_ok-zones.zones.items c.in_ok-zones.ensures _ _ c.pair_at-a.ensures).1

pub returns : goal.returns
returns c =
    let zones = c.in_ok-zones.zones.items in
    let a = rw c.as_slice-2.ensures.value at c.side.ensures in
    let b = rw c.as_slice-3.ensures.value at c.side-2.ensures in
    pair_opposed c.args.part.now c.in_ok-row.row _ _ c.side.result c.side-2.result c.in_ok-row.ensures.least c.pair_at-a.ensures (a c.in_ok-row.row c.in_ok-zones.ensures) (b c.in_ok-row.row c.in_ok-zones.ensures)
