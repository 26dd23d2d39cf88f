use Rattle.std.proofs.Common.{below_more, arith}
use Rattle.value_order.specs.Rows.{HasNoPairAt}
use Rattle.value_order.proofs.Pairs.{pair_found}
use Rattle.value_order.proofs.opposed.pair_at.Goals as goal

pub loop-i-preserved : goal.loop-i-preserved
loop-i-preserved c = below_more (HasNoPairAt c.args.part.now c.args.row) c.loop-i.i c.loop-i.invariant c.in_default.ensures

pub unreachable-requires : goal.unreachable-requires
unreachable-requires c = pair_found c.args.part.now c.len-i-end.ensures.sequence c.args.row c.requires.least c.loop-i.i (omega (arith, c.loop-i-test.false, c.len-i-end.ensures.count)) c.loop-i.invariant
