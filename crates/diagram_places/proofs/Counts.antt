-- Names before one of them.
use Rattle.std.proofs.Common.{ℕ, ◌≡◌, ◌<◌, ◌≤◌, nat_lt, Some, List, length, get_or, count_by, sym, arith}
use Rattle.std.specs.List.{slice_get}
use Rattle.std.specs.List.Sorted.{IsStrictlyIncreasing}
use Rattle.std.proofs.lemmas.List.Kept.{AllPairs-from_increasing}
use Rattle.std.proofs.lemmas.Option.{slice_get_within, get_or_from_slice_get}
use Rattle.labels.proofs.Counts.{below, count_parted, not_below, rising_not_falling}

-- of names that rise, as many are smaller than one of them as stand before it
pub names_before : (names : List ℕ) → IsStrictlyIncreasing names → (i name : ℕ) → slice_get names i ≡ Some name
    → count_by (λ (other : ℕ). nat_lt other name) names ≡ i
names_before names up i name at =
    let within : i < length names = slice_get_within names i name at in
    let here : get_or names i 0 ≡ name = get_or_from_slice_get names i name 0 at in
    let passes = λ (k : ℕ) (less : k < i).
    let rise : get_or names k 0 < get_or names i 0 = AllPairs-from_increasing names up k i 0 less within in
    below (get_or names k 0) name (omega (arith, here, rise)) in
    let fails = λ (k : ℕ) (le : i ≤ k) (less : k < length names).
    let rise : get_or names i 0 ≤ get_or names k 0 = rising_not_falling names up i k 0 le less in
    not_below (get_or names k 0) name (omega (arith, here, rise)) in
    sym (count_parted (λ (other : ℕ). nat_lt other name) names 0 i (omega (arith, within)) passes fails)
