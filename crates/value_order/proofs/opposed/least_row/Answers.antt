use Rattle.std.proofs.Common.{ℕ, ◌≡◌, ◌+◌, ◌-◌, ◌/◌, subst, arith}
use Rattle.value_order.specs.Rows.{HasOpposedBy}
use Rattle.value_order.proofs.LeastRows.{none_below}
use Rattle.value_order.proofs.opposed.least_row.Goals as goal

pub halves-preserved : goal.halves-preserved
halves-preserved c =
    let none = rw c.if-branch.false at c.in_ok-opposed_by.ensures in
    record {
      order = omega (arith, c.halves-test.true);
      opposed = c.halves.invariant.opposed;
      least = none_below c.args.part.now (c.halves.low + (c.halves.high - c.halves.low) / 2) none;
    }

pub returns : goal.returns
returns c =
    let same : c.halves.high ≡ c.halves.low = omega (arith, c.halves-test.false, c.halves.invariant.order) in
    record {
      opposed = subst (λ (row : ℕ). HasOpposedBy c.args.part.now row) same c.halves.invariant.opposed;
      least = c.halves.invariant.least;
    }
