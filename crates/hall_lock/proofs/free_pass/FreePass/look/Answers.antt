use Rattle.std.proofs.Common.{refl}
use Rattle.hall_lock.proofs.FreeTurns.{grown_by, guest_left}
use Rattle.hall_lock.proofs.OneTurn.{unchanged_returns}
use Rattle.hall_lock.proofs.free_pass.FreePass.look.Goals as goal

pub give_back-requires : goal.give_back-requires
give_back-requires g c = unchanged_returns c.receive-hall.ensures.received

pub invariant_of-self : goal.invariant_of-self
invariant_of-self g c = guest_left c.receive-hall.result c.self.invariant.0 c.receive-hall.ensures.received c.give_back.ensures.back
    c.give_back.ensures.recorded

pub returns-clause-told : goal.returns-clause-told
returns-clause-told g c = rw (← c.self.view_is) record {
  hall = c.receive-hall.result;
  replay = c.receive-hall.ensures.replay;
  sound = c.receive-hall.ensures.sound;
  grown = c.receive-hall.ensures.received.knows.seen;
  told = (c.world.result, c.look-told.ensures, c.world.ensures.world);
}

pub returns-clause-seen : goal.returns-clause-seen
returns-clause-seen g c = rw (← c.self.view_is)
    (grown_by c.self.inside.door c.receive-hall.new.self c.give_back.new.self c.receive-hall.result c.receive-hall.result
    c.receive-hall.ensures.received c.give_back.ensures.back refl)
