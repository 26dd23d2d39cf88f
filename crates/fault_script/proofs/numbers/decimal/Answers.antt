use Rattle.std.proofs.Common.{◌≡◌, ◌≤◌, ◌+◌, ◌*◌, ◌^◌, None, sym, ap, ◌∙◌, arith}
use Rattle.std.proofs.lemmas.List.{take_all}
use Rattle.fault_script.specs.Words.{u64_of, decimal_value}
use Rattle.fault_script.proofs.NumberLemmas.{u64_of-small, u64_of-large, large-u64_of, value-more, value-take}
use Rattle.fault_script.proofs.numbers.decimal.Goals as goal

pub returns-in_err-number : goal.returns-in_err-number
returns-in_err-number c =
    let digits = c.args.digits.now in
    let i = c.loop-digit.digit-index in
    let none : u64_of (c.loop-digit.number * 10 + c.saturating_sub.result) ≡ None = sym c.with_digit.ensures ∙ c.in_err-number.was in
    let large = large-u64_of (c.loop-digit.number * 10 + c.saturating_sub.result) none in
    let more = value-more digits i c.loop-digit-test.true in
    let all = value-take digits (i + 1) in
    let value : 2 ^ 64 ≤ decimal_value digits = omega (arith, c.loop-digit.invariant.value, c.saturating_sub.ensures) in
    c.from_residual.ensures ∙ sym (u64_of-large (decimal_value digits) value)

pub returns : goal.returns
returns c =
    let digits = c.args.digits.now in
    let all : c.loop-digit.number ≡ decimal_value digits = c.loop-digit.invariant.value
    ∙ ap decimal_value (take_all c.loop-digit.digit-index digits c.loop-digit-test.false) in
    sym (ap u64_of (sym all) ∙ u64_of-small c.loop-digit.number c.loop-digit.invariant.small)
