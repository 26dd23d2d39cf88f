-- Names in rising order, each once.
use Rattle.std.proofs.Common.{ℕ, ◌≡◌, List, eqb, sym, subst}
use Rattle.std.specs.List.{Contains, dedup}
use Rattle.std.specs.List.Sorted.{IsPermutation, IsSorted, IsStrictlyIncreasing}
use Rattle.std.specs.Ordering.{nat_cmp}
use Rattle.std.proofs.lemmas.List.Kept.{Contains-dedup_nat, Contains-from_dedup}
use Rattle.std.proofs.lemmas.List.Sorted.{Contains-permutation, IsPermutation-sym}
use Rattle.std.proofs.lemmas.Map.Keys.{IsStrictlyIncreasing-dedup}
use Rattle.message_scenes.specs.Scenes.{IsRisingOf}

-- sorted, and without what repeats
pub risen : (names sorted list : List ℕ) → IsPermutation names sorted → IsSorted nat_cmp sorted → list ≡ dedup eqb sorted
    → IsRisingOf names list
risen names sorted list moved up is = record {
  rises = subst IsStrictlyIncreasing (sym is) (IsStrictlyIncreasing-dedup sorted up);
  same = λ name. (
    λ h. Contains-permutation sorted names name (IsPermutation-sym names sorted moved)
        (Contains-from_dedup eqb sorted name (subst (λ (l : List ℕ). Contains l name) is h)),
    λ h. subst (λ (l : List ℕ). Contains l name) (sym is) (Contains-dedup_nat sorted name (Contains-permutation names sorted name moved h)),
  );
}
