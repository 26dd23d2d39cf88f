use Rattle.std.proofs.Common.{Ok, Err}
use Rattle.world_steps.specs.declared.effect.Effect.TheVariants as effect
use Rattle.world_steps.specs.declared.step.Step.TheVariants as event
use Rattle.hall_lock.proofs.ClientTurns.{client_turn, ended, left, seat_left, took_turn}
use Rattle.hall_lock.proofs.OneTurn.{seat_gives}
use Rattle.hall_lock.proofs.Results.{err_if, err_map, ok_all_on, ok_map}
use Rattle.hall_lock.proofs.client_pass.ClientPass.respond.Goals as goal

pub invariant_of-self : goal.invariant_of-self
invariant_of-self g c = seat_left c.respond_in-ended.new.hall c.self.invariant.0 c.receive-hall.ensures.received c.give_back.ensures.back
    c.give_back.ensures.stays c.give_back.ensures.recorded

pub returns : goal.returns
returns g c =
    let turn = client_turn c.respond_in-ended.new.hall c.self.invariant.0 c.receive-hall.ensures.received c.give_back.ensures.back
    c.give_back.ensures.stays in record {
      recorded = (invariant_of-self g c).1;
      stays = rw (← c.self.view_is) turn.stays;
      copy = c.respond_in-ended.ensures.copy;
      few = c.respond_in-ended.ensures.few;
      ended = rw (← c.self.view_is)
          (ok_all_on c.respond_in-ended.result c.respond_in-ended.ensures.took c.respond_in-ended.ensures.adds
          c.respond_in-ended.ensures.answer c.respond_in-ended.ensures.place
          (λ e took adds ready place. ended turn e.op e.returned e.place adds took.2 ready place));
      refused = rw (← c.self.view_is) (err_map c.respond_in-ended.result c.respond_in-ended.ensures.refused (λ same. left turn same));
      turned = rw (← c.self.view_is)
          (ok_map c.respond_in-ended.result c.respond_in-ended.ensures.took
          (λ e took. took_turn turn c.receive-hall.ensures.replay c.receive-hall.ensures.sound (event.Respond c.self.inside.client) (Ok (effect.Responded e.op)) took));
      why = rw (← c.self.view_is)
          (err_if c.respond_in-ended.result c.respond_in-ended.ensures.why
          (λ why took. took_turn turn c.receive-hall.ensures.replay c.receive-hall.ensures.sound (event.Respond c.self.inside.client) (Err why) took));
    }

pub give_back-requires : goal.give_back-requires
give_back-requires g c = seat_gives c.respond_in-ended.new.hall c.respond_in-ended.result c.self.invariant.0 c.receive-hall.ensures.received
    c.respond_in-ended.ensures.adds c.respond_in-ended.ensures.refused
