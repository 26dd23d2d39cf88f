-- How many items of a list pass a test that parts it in two, or stand before one of its items.
use Rattle.std.proofs.Common.{ℕ, ◌≡◌, ◌<◌, ◌≤◌, ◌+◌, ◌-◌, Bool, true, false, nat_le, nat_lt, suc, zero, List, length, get_or, take, count_by, refl, sym, ap, ◌∙◌, subst, arith}
use Rattle.std.proofs.Common.{inl, inr}
use Rattle.std.specs.List.Sorted.{IsNonDecreasingBy, IsPartitionPoint, IsPartitionedBy, IsStrictlyIncreasing}
use Rattle.std.proofs.lemmas.Bool.{cases_lt}
use Rattle.std.proofs.lemmas.Bool.Decides.{nat_tests}
use Rattle.std.proofs.lemmas.List.{take_all}
use Rattle.std.proofs.lemmas.List.Kept.{AllPairs-from_increasing}
use Rattle.std.proofs.lemmas.List.Sorted.{IsPartitionedBy-leb, IsPartitionedBy-ltb}
use Rattle.std.proofs.lemmas.List.Sums.{count_by_more_no, count_by_more_yes}

-- the tests, as they are decided
pub below : (m n : ℕ) → m < n → nat_lt m n ≡ true
below m n less = grind (arith, nat_tests)

pub not_below : (m n : ℕ) → n ≤ m → nat_lt m n ≡ false
not_below m n le = grind (arith, nat_tests)

module _ {X : Type 0} (p : X → Bool) (xs : List X) (d : X) where
  count_front : (i : ℕ) → i ≤ length xs → ((k : ℕ) → k < i → p (get_or xs k d) ≡ true) → count_by p (take i xs) ≡ i
  count_front zero within passes = refl
  count_front (suc i) within passes =
      let rest = count_front i (omega arith) (λ k less. passes k (omega arith)) in
      let more = count_by_more_yes p xs i d (omega arith) (passes i (omega arith)) in
      let next : i + 1 ≡ suc i = omega arith in
      subst (λ (n : ℕ). count_by p (take n xs) ≡ n) next (more ∙ ap (λ (n : ℕ). n + 1) rest)

  count_rest : (i m : ℕ) → i + m ≤ length xs → ((k : ℕ) → i ≤ k → k < length xs → p (get_or xs k d) ≡ false)
      → count_by p (take (i + m) xs) ≡ count_by p (take i xs)
  count_rest i zero within fails = let same : i + 0 ≡ i = omega arith in ap (λ (n : ℕ). count_by p (take n xs)) same
  count_rest i (suc m) within fails =
      let rest = count_rest i m (omega arith) fails in
      let more = count_by_more_no p xs (i + m) d (omega arith) (fails (i + m) (omega arith) (omega arith)) in
      let same : i + suc m ≡ (i + m) + 1 = omega arith in
      ap (λ (n : ℕ). count_by p (take n xs)) same ∙ (more ∙ rest)

  -- as many pass a test as stand before an index, if those before it pass and the others don't
  pub count_parted : (i : ℕ) → i ≤ length xs → ((k : ℕ) → k < i → p (get_or xs k d) ≡ true)
      → ((k : ℕ) → i ≤ k → k < length xs → p (get_or xs k d) ≡ false) → i ≡ count_by p xs
  count_parted i within passes fails =
      let front = count_front i within passes in
      let rest = count_rest i (length xs - i) (omega arith) fails in
      let whole : take (i + (length xs - i)) xs ≡ xs = take_all (i + (length xs - i)) xs (omega arith) in
      sym front ∙ (sym rest ∙ ap (λ (l : List X). count_by p l) whole)

  -- the same, of the point that parts those that do from those that don't
  pub count_partition : (i : ℕ) → i ≤ length xs → IsPartitionPoint (λ y. p y ≡ true) (λ y. p y ≡ false) xs i → i ≡ count_by p xs
  count_partition i within point =
      count_parted i within (λ k less. point.0 k d (omega arith) less) (λ k le less. point.1 k d le less)

module _ {X : Type 0} (f : X → ℕ) (xs : List X) (d : X) (n i : ℕ) (up : IsNonDecreasingBy f xs) (within : i ≤ length xs) where
  -- where a number doesn't fall along a list, the point that parts the items below one
  pub count_below : (IsPartitionedBy (λ x. nat_lt (f x) n) xs
      → IsPartitionPoint (λ x. nat_lt (f x) n ≡ true) (λ x. nat_lt (f x) n ≡ false) xs i)
      → i ≡ count_by (λ x. nat_lt (f x) n) xs
  count_below parts = count_partition (λ x. nat_lt (f x) n) xs d i within (parts (IsPartitionedBy-ltb f xs n up))

  -- and the point that parts those up to it
  pub count_up_to : (IsPartitionedBy (λ x. nat_le (f x) n) xs
      → IsPartitionPoint (λ x. nat_le (f x) n ≡ true) (λ x. nat_le (f x) n ≡ false) xs i)
      → i ≡ count_by (λ x. nat_le (f x) n) xs
  count_up_to parts = count_partition (λ x. nat_le (f x) n) xs d i within (parts (IsPartitionedBy-leb f xs n up))

-- numbers that rise don't fall
pub rising_not_falling : (xs : List ℕ) → IsStrictlyIncreasing xs → IsNonDecreasingBy (λ (x : ℕ). x) xs
rising_not_falling xs up i j d le within =
    elim (cases_lt i j) [
      | inl h ↦ let less : get_or xs i d < get_or xs j d = AllPairs-from_increasing xs up i j d h within in omega arith
      | inr h ↦
          let same : i ≡ j = omega arith in
          let equal : get_or xs i d ≡ get_or xs j d = ap (λ (k : ℕ). get_or xs k d) same in
          omega arith
    ]
