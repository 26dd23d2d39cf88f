use Rattle.std.proofs.Common.{◌≡◌, map, take}
use Rattle.recorder.specs.Logs.{of_hall}
use Rattle.seats.proofs.comparing.entries_of_hall.Given as goal

abbrev pub invariant-loop-entry : goal.invariant-loop-entry
invariant-loop-entry l = map (λ e. e.now) l.entries.items ≡ of_hall l.hall (take l.entry-index l.log)
