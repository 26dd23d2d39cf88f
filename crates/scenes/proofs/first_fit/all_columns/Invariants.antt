use Rattle.std.proofs.Common.{◌≡◌, Some, map, take}
use Rattle.scenes.proofs.first_fit.all_columns.Given as goal

abbrev pub invariant-loop-column : goal.invariant-loop-column
invariant-loop-column l = map Some l.all.items ≡ take l.column-index l.columns
