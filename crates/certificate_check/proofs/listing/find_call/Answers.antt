use Rattle.std.proofs.Common.{ℕ, ◌<◌, ◌+◌, ◌-◌, ◌/◌, arith, ap, sym, ◌∙◌}
use Rattle.tag.specs.declared.numbers.OpId.{OpId}
use Rattle.certificate_check.proofs.Stands.{lower_half, upper_half, absent}
use Rattle.certificate_check.proofs.listing.find_call.Goals as goal

pub op-number-requires : goal.op-number-requires
op-number-requires c = omega (arith, c.halves-test.true, c.halves.invariant.within)

pub returns-then-number-op-clause-found : goal.returns-then-number-op-clause-found
returns-then-number-op-clause-found c =
    let found = c.op-number.ensures in
    (found.0, found.1, sym found.2 ∙ ap (λ (n : ℕ). let o : OpId = record { 0 = n } in o) c.if-number-op.true)

pub halves-preserved-then-number-op-2 : goal.halves-preserved-then-number-op-2
halves-preserved-then-number-op-2 c =
    let was = c.halves.invariant in
    let found = c.op-number.ensures in
    let below : found.0.op.0 < c.args.op.0 = omega (arith, c.if-number-op-2.true, ap (λ (o : OpId). o.0) found.2) in
    record {
      order = omega (arith, c.halves-test.true);
      within = was.within;
      before = lower_half c.args.part.now c.len-high.ensures.sequence c.args.op (c.halves.low + (c.halves.high - c.halves.low) / 2) found.0 found.1 below;
      after = was.after;
    }

pub halves-preserved : goal.halves-preserved
halves-preserved c =
    let was = c.halves.invariant in
    let found = c.op-number.ensures in
    let above : c.args.op.0 < found.0.op.0 = omega (arith, c.if-number-op-2.false, c.if-number-op.false, ap (λ (o : OpId). o.0) found.2) in
    record {
      order = omega arith;
      within = omega (arith, c.halves-test.true, was.within);
      before = was.before;
      after = upper_half c.args.part.now c.len-high.ensures.sequence c.args.op (c.halves.low + (c.halves.high - c.halves.low) / 2) found.0 found.1 above;
    }

pub returns-clause-none : goal.returns-clause-none
returns-clause-none c = absent c.args.part.now c.args.op c.halves.low c.halves.high c.halves-test.false c.halves.invariant.before c.halves.invariant.after
