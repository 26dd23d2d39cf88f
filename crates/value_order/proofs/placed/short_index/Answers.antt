use Rattle.std.proofs.Common.{◌≡◌, ap, arith}
use Rattle.tag.specs.declared.numbers.OpId.{OpId}
use Rattle.value_order.proofs.Indexes.{index_at_most}
use Rattle.value_order.proofs.placed.short_index.Goals as goal

pub overflow_cast-result : goal.overflow_cast-result
overflow_cast-result c =
    let op = c.op.ensures in
    let small = index_at_most c.args.part.now c.attest.ensures c.args.index op.0 op.1 in
    let same : c.op.result.0 ≡ op.0.op.0 = ap (λ (o : OpId). o.0) op.2 in
    omega (arith, small, same)
