use Rattle.std.proofs.Common.{◌≡◌, take}
use Rattle.recorder.proofs.row_table.copied_keys.Given as goal

abbrev pub invariant-loop-key : goal.invariant-loop-key
invariant-loop-key l = l.copy ≡ take l.key-index l.keys
