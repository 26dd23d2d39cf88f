use Rattle.std.proofs.Common.{false, arith}
use Rattle.std.proofs.lemmas.Option.{slice_get-get_or, slice_get_within}
use Rattle.value_order.proofs.StaleTables.{passed_more, passed_left, greatest_next}
use Rattle.value_order.proofs.ended.ended_before.Goals as goal

pub returns-then-from-key-clause-passed : goal.returns-then-from-key-clause-passed
returns-then-from-key-clause-passed c =
    let at = slice_get-get_or c.args.keys.now c.ends.count (record { rank = 0; family = 0; is_read = false; index = 0 }) c.ends-test.true in
    passed_left c.args.keys.now c.ends.count c.args.place _ at (omega (arith, c.from.ensures, c.if-from-key.true)) c.requires.rises c.ends.invariant.passed

pub ends-preserved : goal.ends-preserved
ends-preserved c =
    let at = slice_get-get_or c.args.keys.now c.ends.count (record { rank = 0; family = 0; is_read = false; index = 0 }) c.ends-test.true in
    record {
      passed = passed_more c.args.keys.now c.ends.count c.args.place _ at (omega (arith, c.from.ensures, c.if-from-key.false)) c.ends.invariant.passed;
      latest = greatest_next c.args.keys.now c.ends.count c.later_of.result c.ends.latest _ at c.later_of.ensures.first c.later_of.ensures.later c.ends.invariant.latest;
    }

pub returns-clause-passed : goal.returns-clause-passed
returns-clause-passed c = record {
  passed = c.ends.invariant.passed;
  left = λ p key le at. absurd (omega (arith, le, slice_get_within c.args.keys.now p key at, c.ends-test.false));
}
