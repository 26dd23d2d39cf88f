use Rattle.std.proofs.Common.{ℕ, ◌≡◌, Some, length}
use Rattle.std.specs.List.{slice_get}
use Rattle.recorder.specs.declared.record.CallState.{CallState}
use Rattle.recorder.specs.Tables.{BeginsOn}
use Rattle.recorder.proofs.record.Record.key_numbers.Given as goal

abbrev pub invariant-loop-number : goal.invariant-loop-number
invariant-loop-number l = (length l.numbers.items ≡ l.number)
    × ((k number : ℕ) (state : CallState) → slice_get l.numbers.items k ≡ Some number → slice_get l.self.states.items k ≡ Some state → BeginsOn l.self.rows state.invoked number)
