use Rattle.value_order.proofs.LeastRows.{opposed_by_scan}
use Rattle.value_order.proofs.opposed.opposed_by.Goals as goal

pub returns : goal.returns
returns c = opposed_by_scan c.args.part.now c.attest.ensures c.args.row c.in_ok-zones.zones.items c.in_ok-zones.ensures c.have_crossing.result (rw c.as_slice.ensures.value at c.have_crossing.ensures)
