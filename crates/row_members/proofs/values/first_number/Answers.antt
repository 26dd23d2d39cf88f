use Rattle.std.proofs.Common.{◌<◌, ◌≤◌, get_or, arith}
use Rattle.std.specs.Char.{IsNotAsciiDigit}
use Rattle.row_members.proofs.Digits.{smaller, more_digits, more_value, second_digit, past_digits, not_begun, spelled}
use Rattle.row_members.proofs.values.first_number.Goals as goal
use Rattle.row_members.proofs.values.first_number.Goals.{then-loop-count-test+else-is_ascii_digit, else-loop-count-test}

pub overflow_mul-value : goal.overflow_mul-value
overflow_mul-value c =
    let so_far = c.loop-count.invariant in
    let few : c.loop-count.count ≤ 18 = omega (arith, c.loop-count-test.true, c.min.ensures) in
    omega (arith, smaller c.args.bytes.now c.loop-count.count so_far.within few so_far.digits, so_far.value)

pub overflow_add-value : goal.overflow_add-value
overflow_add-value c =
    let so_far = c.loop-count.invariant in
    let digit = c.if-is_ascii_digit.ensures.cases in
    let few : c.loop-count.count ≤ 18 = omega (arith, c.loop-count-test.true, c.min.ensures) in
    omega (arith, smaller c.args.bytes.now c.loop-count.count so_far.within few so_far.digits, so_far.value, c.from.ensures, digit)

pub loop-count-preserved : goal.loop-count-preserved
loop-count-preserved c =
    let bytes = c.args.bytes.now in
    let count = c.loop-count.count in
    let so_far = c.loop-count.invariant in
    let digit = c.if-is_ascii_digit.ensures.cases in
    let inside : count < c.min.result = c.loop-count-test.true in
    record {
      within = omega (arith, inside, c.min.ensures);
      few = omega (arith, inside, c.min.ensures);
      digits = more_digits bytes count (omega (arith, inside, c.min.ensures)) digit so_far.digits;
      second = λ many. second_digit bytes count digit so_far.second many;
      value = more_value bytes count c.loop-count.value c.from.result (omega (arith, inside, c.min.ensures)) digit so_far.value
          (omega (arith, c.from.ensures, digit));
    }

pub returns-clause-found : goal.returns-clause-found
returns-clause-found c =
    let bytes = c.args.bytes.now in
    let count = c.loop-count.count in
    let so_far = c.loop-count.invariant in
    let written = c.are_spelled.ensures in
    let whole : count < 19 → IsNotAsciiDigit (get_or bytes count 0) = λ few. elim c.loop-count-test.branch [
      | then-loop-count-test+else-is_ascii_digit w ↦ w.if-is_ascii_digit.ensures.cases
      | else-loop-count-test w ↦ past_digits bytes count (omega (arith, w.loop-count-test.false, c.min.ensures))
    ] in
    spelled bytes count c.loop-count.value (written.some c.if-not-are_spelled.false) so_far.within so_far.few
    (written.alone c.if-not-are_spelled.false) so_far.digits so_far.value whole

pub returns-then-not-are_spelled-clause-none : goal.returns-then-not-are_spelled-clause-none
returns-then-not-are_spelled-clause-none c =
    let bytes = c.args.bytes.now in
    let count = c.loop-count.count in
    let whole : count < 19 → IsNotAsciiDigit (get_or bytes count 0) = λ few. elim c.loop-count-test.branch [
      | then-loop-count-test+else-is_ascii_digit w ↦ w.if-is_ascii_digit.ensures.cases
      | else-loop-count-test w ↦ past_digits bytes count (omega (arith, w.loop-count-test.false, c.min.ensures))
    ] in
    not_begun bytes count whole c.loop-count.invariant.second (c.are_spelled.ensures.not c.if-not-are_spelled.true)
