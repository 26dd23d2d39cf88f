use Rattle.value_order.proofs.FirstFaults.{named}
use Rattle.value_order.proofs.faults.doubt_at.Goals as goal

pub returns : goal.returns
returns c =
    let a = c.op-read.ensures in
    let b = c.op-one.ensures in
    let d = c.op-two.ensures in
    named c.args.part.now c.args.i c.args.first c.args.second (record { read = c.op-read.result; first = c.op-one.result; second = c.op-two.result }) a.0 b.0 d.0 a.1 b.1 d.1 a.2 b.2 d.2
