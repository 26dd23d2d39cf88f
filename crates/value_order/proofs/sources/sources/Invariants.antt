use Rattle.std.proofs.Common.{ℕ, ◌≡◌, Some, length}
use Rattle.std.specs.List.{slice_get}
use Rattle.recorder.specs.declared.part.Call.{Call}
use Rattle.value_order.specs.declared.sources.Source.{Source}
use Rattle.value_order.specs.Sources.{IsSource}
use Rattle.value_order.proofs.sources.sources.Given as goal

abbrev pub invariant-loop-i : goal.invariant-loop-i
invariant-loop-i l = record {
  count : length l.sources.items ≡ l.i;
  each : (k : ℕ) (call : Call) (from : Source) → slice_get l.part k ≡ Some call → slice_get l.sources.items k ≡ Some from → IsSource l.part call from;
}
