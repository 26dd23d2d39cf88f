use Rattle.std.proofs.Common.{◌≡◌, map, take}
use Rattle.merged_keys.specs.MergedKeys.{on_key}
use Rattle.merged_keys.proofs.merging.on_key.Given as goal

abbrev pub invariant-loop-place : goal.invariant-loop-place
invariant-loop-place l = l.made ≡ record { rows = map (on_key l.key) (take l.place l.history.rows); limit = l.history.limit }
