-- Orders of numbers.
use Rattle.std.proofs.Common.{◌≡◌, ◌<◌, ◌+◌, ◌⊎◌, ◌==◌, ℕ, zero, suc, false, inl, inr, true≢false, arith}
use Rattle.std.proofs.lemmas.Bool.{cases_lt}

-- what is below a number's successor is below the number, or is it
pub below_or_last : (m n : ℕ) → m < suc n → (m < n) ⊎ (m ≡ n)
below_or_last m n less = elim (cases_lt m n) [ inl before ↦ inl before | inr late ↦ inr (omega (arith, less, late)) ]

pub below_or_next : (m n : ℕ) → m < n + 1 → (m < n) ⊎ (m ≡ n)
below_or_next m n less = elim (cases_lt m n) [ inl before ↦ inl before | inr late ↦ inr (omega (arith, less, late)) ]

-- a number that isn't 0 is above it
pub above_zero : (n : ℕ) → (n == 0) ≡ false → 0 < n
above_zero zero e = absurd (true≢false e)
above_zero (suc n) e = omega arith
