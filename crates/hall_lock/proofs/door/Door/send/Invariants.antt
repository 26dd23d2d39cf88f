use Rattle.std.proofs.Common.{◌≡◌}
use Rattle.crossbeam_channel.specs.Claims.{view, IsSeatAt}
use Rattle.crossbeam_channel.specs.Ends.{sends_on, receives_on}
use Rattle.hall_lock.proofs.door.Door.send.Given as goal

abbrev pub invariant-loop : goal.invariant-loop
invariant-loop g l = IsSeatAt (sends_on l.self-inside.sender) l.self-inside.pass
    × (receives_on l.self-inside.receiver ≡ sends_on l.self-inside.sender) × (view l.self-inside.pass ≡ l.fn.self) × (l.back ≡ l.fn.hall)
