use Rattle.std.proofs.Common.{ℕ, cond, nat_le, ◌∙◌}
use Rattle.std.proofs.lemmas.List.Sorted.{sum_by-IsPermutation, IsNonDecreasingBy-from_sort}
use Rattle.scenes.proofs.overlap.sorted_ends.Goals as goal

pub returns : goal.returns
returns c =
    let start = c.in_ok-ends.ends.items in
    record {
      ends = λ place. sum_by-IsPermutation (λ (end : ℕ). cond (nat_le end place) 1 0) start _ c.sort_unstable.ensures.permutation ∙
          c.in_ok-ends.ensures place;
      sorted = IsNonDecreasingBy-from_sort (λ (x : ℕ). x) _ c.sort_unstable.ensures.sorted;
    }
