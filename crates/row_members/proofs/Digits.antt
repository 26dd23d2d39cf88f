-- Numbers that digits write, read digit by digit.
use Rattle.std.proofs.Common.{◌≡◌, ◌⊎◌, ℕ, zero, suc, ◌+◌, ◌*◌, ◌^◌, ◌<◌, ◌≤◌, List, ◌++◌, decimal}
use Rattle.std.proofs.Common.{length, get_or, take, drop, inl, inr, sym, ap, subst, ◌∙◌, arith}
use Rattle.std.specs.Str.Parse.{AllDigits, digits_value}
use Rattle.std.specs.Char.{IsAsciiDigit, IsNotAsciiDigit}
use Rattle.std.specs.Int.{IsInRange}
use Rattle.std.proofs.lemmas.Int.Digits.{digits_more, digits_value_more}
use Rattle.std.proofs.lemmas.Str.{digit_value_digit}
use Rattle.std.proofs.lemmas.Str.Parse.{IsNumeralModel, numerals_by_value, tells_digits, digits_value_short}
use Rattle.std.proofs.lemmas.Fmt.{decimal-digits_value}
use Rattle.std.proofs.lemmas.List.{length-take, get_or-take, get_or_past, take-append-drop}
use Rattle.row_members.specs.Scans.{BeginsWith, BeginsWithNone}

own : IsNumeralModel (AllDigits 10) (digits_value 10)
own = numerals_by_value _ tells_digits

-- the value of 19 digits at most
pub small : (bytes : List ℕ) (count : ℕ) → count ≤ length bytes → count ≤ 19 → AllDigits 10 (take count bytes)
    → digits_value 10 (take count bytes) < 10000000000000000000
small bytes count within few digits =
    omega (arith, digits_value_short own (take count bytes) 19 digits (omega (arith, length-take count bytes)))

-- the value of 18 digits at most
pub smaller : (bytes : List ℕ) (count : ℕ) → count ≤ length bytes → count ≤ 18 → AllDigits 10 (take count bytes)
    → digits_value 10 (take count bytes) < 1000000000000000000
smaller bytes count within few digits =
    omega (arith, digits_value_short own (take count bytes) 18 digits (omega (arith, length-take count bytes)))

-- one digit more
pub more_digits : (bytes : List ℕ) (count : ℕ) → count < length bytes → IsInRange 48 57 (get_or bytes count 0)
    → AllDigits 10 (take count bytes) → AllDigits 10 (take (count + 1) bytes)
more_digits bytes count within is_digit digits =
    digits_more 10 bytes count within digits (omega (arith, digit_value_digit (get_or bytes count 0) is_digit, is_digit))

pub more_value : (bytes : List ℕ) (count value digit : ℕ) → count < length bytes → IsInRange 48 57 (get_or bytes count 0) → value
    ≡ digits_value 10 (take count bytes) → digit + 48 ≡ get_or bytes count 0 → value * 10 + digit
    ≡ digits_value 10 (take (count + 1) bytes)
more_value bytes count value digit within is_digit so_far this =
    omega (arith, digits_value_more 10 bytes count within, digit_value_digit (get_or bytes count 0) is_digit, so_far, this)

-- no digit stands after the end
pub past_digits : (bytes : List ℕ) (count : ℕ) → length bytes ≤ count → IsNotAsciiDigit (get_or bytes count 0)
past_digits bytes count past = inl (omega (arith, get_or_past bytes count 0 past))

-- one digit more, where the second is known of more than one
pub second_digit : (bytes : List ℕ) (count : ℕ) → IsAsciiDigit (get_or bytes count 0) → (1 < count → IsAsciiDigit (get_or bytes 1 0))
    → 1 < count + 1 → IsAsciiDigit (get_or bytes 1 0)
second_digit bytes zero this known many = absurd (omega arith)
second_digit bytes (suc zero) this known many = this
second_digit bytes (suc (suc count)) this known many = known (omega arith)

-- no digits, or a zero and others
pub not_begun : (bytes : List ℕ) (count : ℕ) → (count < 19 → IsNotAsciiDigit (get_or bytes count 0))
    → (1 < count → IsAsciiDigit (get_or bytes 1 0)) → (count ≡ 0) ⊎ ((get_or bytes 0 0 ≡ 48) × (1 < count)) → BeginsWithNone bytes
not_begun bytes count whole second (inl none) =
    inl (subst (λ (n : ℕ). IsNotAsciiDigit (get_or bytes n 0)) none (whole (omega (arith, none))))
not_begun bytes count whole second (inr zeros) = inr (zeros.0, second zeros.1)

-- digits that begin with no zero, or are one alone, as `decimal` writes their value, and none after them
pub spelled : (bytes : List ℕ) (count value : ℕ) → 0 < count → count ≤ length bytes → count ≤ 19 → (get_or bytes 0 0 ≡ 48 → count ≡ 1)
    → AllDigits 10 (take count bytes) → value ≡ digits_value 10 (take count bytes)
    → (count < 19 → IsNotAsciiDigit (get_or bytes count 0)) → BeginsWith bytes value count
spelled bytes count value some within few alone digits read whole =
    let front = take count bytes in
    let long : length front ≡ count = omega (arith, length-take count bytes) in
    let lead : get_or front 0 0 ≡ 48 → length front ≡ 1 = λ zero. long ∙ alone (sym (get_or-take count bytes 0 0 some) ∙ zero) in
    let fits : digits_value 10 front < 2 ^ 64 = omega (arith, small bytes count within few digits) in
    let same : decimal value ≡ front = ap decimal read ∙ decimal-digits_value own front digits (omega (arith, long, some)) lead fits in
    record {
      some = some;
      within = within;
      fits = omega (arith, small bytes count within few digits, read);
      whole = whole;
      spelled = sym (take-append-drop count bytes) ∙ ap (λ (s : List ℕ). s ++ drop count bytes) (sym same);
    }
