use Rattle.std.proofs.Common.{Ok}
use Rattle.world_steps.specs.declared.effect.Effect.TheVariants as effect
use Rattle.world_steps.specs.declared.step.Step.TheVariants as event
use Rattle.hall_lock.proofs.ClientTurns.{begun, client_turn, delayed, left, seat_left, took_turn}
use Rattle.hall_lock.proofs.OneTurn.{seat_gives}
use Rattle.hall_lock.proofs.Results.{err_if, err_map, ok_both, ok_map}
use Rattle.hall_lock.proofs.client_pass.ClientPass.invoke.Goals as goal

pub invariant_of-self : goal.invariant_of-self
invariant_of-self g c = seat_left c.begin_in-begun.new.hall c.self.invariant.0 c.receive-hall.ensures.received c.give_back.ensures.back
    c.give_back.ensures.stays c.give_back.ensures.recorded

pub returns : goal.returns
returns g c =
    let turn = client_turn c.begin_in-begun.new.hall c.self.invariant.0 c.receive-hall.ensures.received c.give_back.ensures.back
    c.give_back.ensures.stays in record {
      recorded = (invariant_of-self g c).1;
      stays = rw (← c.self.view_is) turn.stays;
      begun = rw (← c.self.view_is)
          (ok_both c.begin_in-begun.result c.begin_in-begun.ensures.began c.begin_in-begun.ensures.place
          (λ b took place. begun turn c.args.key c.args.action b.op b.place took place.0));
      seen = ok_map c.begin_in-begun.result c.begin_in-begun.ensures.place (λ b place. place.1);
      few = c.begin_in-begun.ensures.few;
      delayed = rw (← c.self.view_is) (err_map c.begin_in-begun.result c.begin_in-begun.ensures.delayed (λ same. left turn same));
      turned = rw (← c.self.view_is)
          (ok_map c.begin_in-begun.result c.begin_in-begun.ensures.began
          (λ b took. took_turn turn c.receive-hall.ensures.replay c.receive-hall.ensures.sound (event.Invoke c.self.inside.client c.args.key c.args.action) (Ok (effect.Invoked b.op)) took));
      why = rw (← c.self.view_is)
          (err_if c.begin_in-begun.result c.begin_in-begun.ensures.why
          (λ delay held. delayed turn (event.Invoke c.self.inside.client c.args.key c.args.action) c.args.seen delay
          c.receive-hall.ensures.replay c.receive-hall.ensures.sound held));
    }

pub give_back-requires : goal.give_back-requires
give_back-requires g c = seat_gives c.begin_in-begun.new.hall c.begin_in-begun.result c.self.invariant.0 c.receive-hall.ensures.received
    c.begin_in-begun.ensures.adds c.begin_in-begun.ensures.delayed
