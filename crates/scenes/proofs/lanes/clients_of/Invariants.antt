use Rattle.std.proofs.Common.{take}
use Rattle.scenes.specs.Scenes.{HasCallOf}
use Rattle.scenes.proofs.Just.{HasJust}
use Rattle.scenes.proofs.lanes.clients_of.Given as goal

abbrev pub invariant-loop-i : goal.invariant-loop-i
invariant-loop-i l = HasJust (HasCallOf l.part (take l.i-index l.shown)) l.clients.items
