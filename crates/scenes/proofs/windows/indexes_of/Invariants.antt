use Rattle.std.proofs.Common.{take}
use Rattle.scenes.specs.Windows.{IsToShow}
use Rattle.scenes.proofs.Just.{HasJust}
use Rattle.scenes.proofs.windows.indexes_of.Given as goal

abbrev pub invariant-loop-op : goal.invariant-loop-op
invariant-loop-op l = HasJust (IsToShow l.part l.fn.window (take l.op-index l.kept)) l.indexes.items
