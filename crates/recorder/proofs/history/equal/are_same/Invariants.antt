use Rattle.std.proofs.Common.{ℕ, ◌≡◌, ◌<◌, Some, true}
use Rattle.std.specs.List.{slice_get}
use Rattle.recorder.specs.declared.row.Row.{Row}
use Rattle.recorder.specs.contracts.row.RowPartialEq.TheImpl as row
use Rattle.recorder.proofs.history.equal.are_same.Given as goal

-- the rows so far are the same
abbrev pub invariant-loop-place : goal.invariant-loop-place
invariant-loop-place l = (k : ℕ) (x y : Row) → k < l.place → slice_get l.rows.rows k ≡ Some x → slice_get l.others.rows k ≡ Some y → row.eq-value.it x y ≡ true
