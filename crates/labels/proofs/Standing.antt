-- Where things stand, as far as that isn't the farthest place.
use Rattle.std.proofs.Common.{ℕ, suc, ◌≡◌, ◌<◌, ◌≤◌, ◌+◌, ◌*◌, min, inl, inr, arith}
use Rattle.std.proofs.Math.Nat.{min-eq_left, min-eq_right, min-le_left, min-le_right, mul-le-mul_right, suc-mul}
use Rattle.std.proofs.lemmas.Bool.{cases_lt}

-- what stands nearer stands where it belongs
pub nearer : (x far : ℕ) → min x far < far → min x far ≡ x
nearer x far near = elim (cases_lt x far) [
  | inl h ↦ min-eq_left (omega (arith, h))
  | inr h ↦ let at : min x far ≡ far = min-eq_right h in absurd (omega (arith, near, at))
]

-- and what belongs nearer stands there
pub near_is : (x far : ℕ) → x < far → min x far ≡ x
near_is x far less = min-eq_left (omega (arith, less))

-- what belongs before something near stands before it
pub stays_before : (x y far : ℕ) → x < y → min y far < far → min x far < min y far
stays_before x y far less near =
    let there = nearer y far near in
    let here = near_is x far (omega (arith, less, near, there)) in
    omega (arith, here, there, less)

-- what belongs so far beyond something stands no farther beyond it
pub stays_beside : (x y k far : ℕ) → x ≤ y + k → min x far ≤ min y far + k
stays_beside x y k far le = elim (cases_lt y far) [
  | inl h ↦ let at : min y far ≡ y = near_is y far h in omega (arith, at, le, min-le_left x far)
  | inr h ↦ let at : min y far ≡ far = min-eq_right h in omega (arith, at, min-le_right x far)
]

-- the nearer of two places stays the nearer
pub stays_no_farther : (x y far : ℕ) → x ≤ y → min x far ≤ min y far
stays_no_farther x y far le =
    let beside = stays_beside x y 0 far (omega (arith, le)) in
    omega (arith, beside)

-- a step more is a step farther
pub one_step : (i j step : ℕ) → i < j → i * step + step ≤ j * step
one_step i j step less =
    let more : suc i * step ≤ j * step = mul-le-mul_right step (omega (arith, less)) in
    omega (arith, more, suc-mul i step)
