use Rattle.hall_lock.proofs.ClientTurns.{quiet_seen, seat_turned, turn_seen}
use Rattle.hall_lock.proofs.Stopping.{sees_stopped}
use Rattle.hall_lock.proofs.client_pass.ClientPass.stop.Goals as goal

pub returns-clause-no_row : goal.returns-clause-no_row
returns-clause-no_row g c = rw (← c.self.view_is)
    (quiet_seen c.self.inside.client c.self.inside.door c.take.new.self _ c.take.result _ c.self.invariant.0 c.take.ensures)

pub returns-clause-stopped : goal.returns-clause-stopped
returns-clause-stopped g c = sees_stopped c.self.inside.client c.self.inside.door c.take.new.self c.take.result c.self.invariant.0
    c.take.ensures

pub returns-clause-recorded : goal.returns-clause-recorded
returns-clause-recorded g c = (seat_turned c.self.inside.client c.self.inside.door c.take.new.self _ c.take.result c.self.invariant.0
    c.take.ensures).1

pub invariant_of-self : goal.invariant_of-self
invariant_of-self g c = seat_turned c.self.inside.client c.self.inside.door c.take.new.self _ c.take.result c.self.invariant.0
    c.take.ensures

pub returns-clause-turned : goal.returns-clause-turned
returns-clause-turned g c = rw (← c.self.view_is)
    (c.take.result, turn_seen c.self.inside.client c.self.inside.door c.take.new.self _ c.take.result c.self.invariant.0 c.take.ensures)
