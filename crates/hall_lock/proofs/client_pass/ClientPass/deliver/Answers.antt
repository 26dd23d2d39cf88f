use Rattle.std.proofs.Common.{Ok, Err}
use Rattle.world_steps.specs.declared.effect.Effect.TheVariants as effect
use Rattle.hall_lock.specs.Turns.DeliversFlight.{Theirs}
use Rattle.hall_lock.specs.Turns.TakesReply.{WithoutNote}
use Rattle.hall_lock.proofs.ClientTurns.{client_turn, heard, left, seat_left, takes_flight, to_client}
use Rattle.hall_lock.proofs.OneTurn.{seat_gives}
use Rattle.hall_lock.proofs.Results.{either_on, err_if, err_map, ok_map}
use Rattle.hall_lock.proofs.client_pass.ClientPass.deliver.Goals as goal

pub invariant_of-self : goal.invariant_of-self
invariant_of-self g c = seat_left c.deliver_in-taken.new.hall c.self.invariant.0 c.receive-hall.ensures.received c.give_back.ensures.back
    c.give_back.ensures.stays c.give_back.ensures.recorded

pub returns : goal.returns
returns g c =
    let turn = client_turn c.deliver_in-taken.new.hall c.self.invariant.0 c.receive-hall.ensures.received c.give_back.ensures.back
    c.give_back.ensures.stays in record {
      recorded = (invariant_of-self g c).1;
      stays = rw (← c.self.view_is) turn.stays;
      took = rw (← c.self.view_is)
          (either_on c.deliver_in-taken.result c.deliver_in-taken.ensures.took c.deliver_in-taken.ensures.adds
          (λ _ took adds. heard turn c.args.flight adds (to_client _ _ took.1) took.0.0 took.0.2) c.deliver_in-taken.ensures.refused
          (λ same. WithoutNote (left turn same)));
      refused = rw (← c.self.view_is) (err_map c.deliver_in-taken.result c.deliver_in-taken.ensures.refused (λ same. left turn same));
      delivered = rw (← c.self.view_is)
          (ok_map c.deliver_in-taken.result c.deliver_in-taken.ensures.took
          (λ taken took. takes_flight turn c.receive-hall.ensures.replay c.receive-hall.ensures.sound c.args.flight (Ok (effect.Taken taken)) (Theirs took.1 took.0)));
      kept = rw (← c.self.view_is)
          (err_if c.deliver_in-taken.result c.deliver_in-taken.ensures.why
          (λ why delivered. takes_flight turn c.receive-hall.ensures.replay c.receive-hall.ensures.sound c.args.flight (Err why) delivered));
    }

pub give_back-requires : goal.give_back-requires
give_back-requires g c = seat_gives c.deliver_in-taken.new.hall c.deliver_in-taken.result c.self.invariant.0 c.receive-hall.ensures.received
    c.deliver_in-taken.ensures.adds c.deliver_in-taken.ensures.refused
