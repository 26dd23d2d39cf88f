use Rattle.std.proofs.Common.{refl, sym, subst}
use Rattle.world_steps.specs.Lasting.{HasStopped}
use Rattle.hall_lock.specs.Turns.{StandsIn}
use Rattle.hall_lock.proofs.ClientTurns.{client_turn, found_stopped, left, looks_at, seat_left}
use Rattle.hall_lock.proofs.OneTurn.{unchanged_returns}
use Rattle.hall_lock.proofs.client_pass.ClientPass.standing.Goals as goal

pub give_back-requires : goal.give_back-requires
give_back-requires g c = unchanged_returns c.receive-hall.ensures.received

pub invariant_of-self : goal.invariant_of-self
invariant_of-self g c = seat_left c.receive-hall.result c.self.invariant.0 c.receive-hall.ensures.received c.give_back.ensures.back
    c.give_back.ensures.stays c.give_back.ensures.recorded

pub returns-clause-recorded : goal.returns-clause-recorded
returns-clause-recorded g c = (invariant_of-self g c).1

pub returns-clause-stays : goal.returns-clause-stays
returns-clause-stays g c = rw (← c.self.view_is) (client_turn c.receive-hall.result c.self.invariant.0 c.receive-hall.ensures.received
    c.give_back.ensures.back c.give_back.ensures.stays).stays

pub returns-clause-no_row : goal.returns-clause-no_row
returns-clause-no_row g c = rw (← c.self.view_is) (left (client_turn c.receive-hall.result c.self.invariant.0
    c.receive-hall.ensures.received c.give_back.ensures.back c.give_back.ensures.stays) refl)

pub returns-clause-stopped : goal.returns-clause-stopped
returns-clause-stopped g c = rw (← c.self.view_is)
    (λ stopped. c.standing_in-standing.ensures.stopped (subst (λ s. HasStopped s c.self.inside.client) (sym c.world.ensures.world)
    (found_stopped c.self.inside.client c.self.inside.door c.receive-hall.new.self c.receive-hall.result c.self.invariant.0
    c.receive-hall.ensures.received stopped)))

pub returns-clause-told : goal.returns-clause-told
returns-clause-told g c = rw (← c.self.view_is)
    (looks_at (client_turn c.receive-hall.result c.self.invariant.0 c.receive-hall.ensures.received c.give_back.ensures.back
    c.give_back.ensures.stays) (StandsIn c.self.inside.client c.standing_in-standing.result.phase c.standing_in-standing.result.counted)
    c.receive-hall.ensures.replay c.receive-hall.ensures.sound
    (subst (StandsIn c.self.inside.client c.standing_in-standing.result.phase c.standing_in-standing.result.counted) c.world.ensures.world
    c.standing_in-standing.ensures.stands))
