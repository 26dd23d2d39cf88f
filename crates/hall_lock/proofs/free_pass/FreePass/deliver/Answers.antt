use Rattle.std.proofs.Common.{Ok, Err}
use Rattle.world_steps.specs.declared.effect.Effect.TheVariants as effect
use Rattle.hall_lock.specs.Turns.DeliversFlight.{Theirs}
use Rattle.hall_lock.proofs.FreeTurns.{guest_left, served_flight}
use Rattle.hall_lock.proofs.OneTurn.{guest_gives}
use Rattle.hall_lock.proofs.Results.{err_if, ok_map}
use Rattle.hall_lock.proofs.free_pass.FreePass.deliver.Goals as goal

pub give_back-requires : goal.give_back-requires
give_back-requires g c = guest_gives c.serve_in-served.new.hall c.serve_in-served.result c.self.invariant.0 c.receive-hall.ensures.received
    c.serve_in-served.ensures.adds c.serve_in-served.ensures.refused

pub invariant_of-self : goal.invariant_of-self
invariant_of-self g c = guest_left c.serve_in-served.new.hall c.self.invariant.0 c.receive-hall.ensures.received c.give_back.ensures.back
    c.give_back.ensures.recorded

pub returns-clause-served : goal.returns-clause-served
returns-clause-served g c = rw (← c.self.view_is)
    (ok_map c.serve_in-served.result c.serve_in-served.ensures.served (λ reply took. served_flight c.self.inside.door
    c.receive-hall.new.self c.give_back.new.self c.receive-hall.result c.serve_in-served.new.hall c.args.replica c.args.flight
    (Ok (effect.Answered reply)) c.receive-hall.ensures.received c.give_back.ensures.back
    c.receive-hall.ensures.replay c.receive-hall.ensures.sound (Theirs took.1 took.0)))

pub returns-clause-refused : goal.returns-clause-refused
returns-clause-refused g c = rw (← c.self.view_is)
    (err_if c.serve_in-served.result c.serve_in-served.ensures.why (λ why delivered. served_flight c.self.inside.door
    c.receive-hall.new.self c.give_back.new.self c.receive-hall.result c.serve_in-served.new.hall c.args.replica c.args.flight
    (Err why) c.receive-hall.ensures.received c.give_back.ensures.back c.receive-hall.ensures.replay c.receive-hall.ensures.sound delivered))
