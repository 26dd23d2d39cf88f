use Rattle.hall_lock.proofs.OneTurn.{may_return, turned}
use Rattle.hall_lock.proofs.door.Door.take.Goals as goal

pub give_back-requires : goal.give_back-requires
give_back-requires g c =
    may_return c.args.self.now c.receive-hall.new.self c.receive-hall.result c.take_in-taken.new.hall c.args.step c.requires.may
    c.receive-hall.ensures.received c.take_in-taken.ensures.adds

pub returns : goal.returns
returns g c =
    turned c.args.self.now c.receive-hall.new.self c.give_back.new.self c.receive-hall.result c.take_in-taken.new.hall c.args.step
    c.take_in-taken.result
    c.receive-hall.ensures.received c.receive-hall.ensures.replay c.receive-hall.ensures.sound c.take_in-taken.ensures.takes c.give_back.ensures.recorded c.give_back.ensures.back
    c.give_back.ensures.stays
