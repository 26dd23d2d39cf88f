use Rattle.std.proofs.Common.{ℕ, ◌≡◌, Option, Some, length}
use Rattle.std.specs.List.{slice_get}
use Rattle.scenes.proofs.first_fit.all_with.Given as goal

abbrev pub invariant-loop : goal.invariant-loop
invariant-loop l = record {
  long : length l.list.items ≡ l.counter;
  each : (i : ℕ) (other : Option ℕ) → slice_get l.list.items i ≡ Some other → other ≡ l.fn.end;
}
