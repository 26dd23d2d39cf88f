use Rattle.std.proofs.Common.{◌≡◌, [], length, ℕ, List}
use Rattle.std.specs.Prelude.{All}
use Rattle.history_file.proofs.numbered_format.empty_lists.Given as goal

abbrev pub invariant-loop : goal.invariant-loop
invariant-loop l = record {
  count : length l.lists.items ≡ l.counter;
  empty : All (λ (lines : List ℕ). lines ≡ []) l.lists.items;
}
