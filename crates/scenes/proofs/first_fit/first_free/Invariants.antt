use Rattle.std.proofs.Common.{ℕ, ◌≡◌, ◌<◌, Option, Some}
use Rattle.std.specs.List.{slice_get}
use Rattle.scenes.specs.Columns.{LastsTo}
use Rattle.scenes.proofs.first_fit.first_free.Given as goal

abbrev pub invariant-loop-column : goal.invariant-loop-column
invariant-loop-column l = (before : ℕ) (end : Option ℕ) → before < l.column → slice_get l.taken before ≡ Some end → LastsTo end l.fn.place
