use Rattle.hall_lock.proofs.OneTurn.{response_adds}
use Rattle.hall_lock.proofs.door.answer_in.Goals as goal

pub returns-clause-adds : goal.returns-clause-adds
returns-clause-adds c =
    response_adds c.args.hall.now c.respond.new.self c.args.client c.respond.result c.attest.ensures.sound c.attest.ensures.replay
    c.respond.ensures.replay c.a_step_adds_a_row_of_its_client.ensures c.further_steps_take_nothing_away.ensures.joined
    c.a_stop_is_for_good.ensures.next c.respond.ensures.takes
