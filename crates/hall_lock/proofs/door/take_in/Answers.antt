use Rattle.hall_lock.proofs.OneTurn.{takes_add}
use Rattle.hall_lock.proofs.door.take_in.Goals as goal

pub returns-clause-adds : goal.returns-clause-adds
returns-clause-adds c =
    takes_add c.args.hall.now c.take.new.self c.args.step c.take.result c.attest.ensures.sound c.attest.ensures.replay c.take.ensures.replay
    c.a_step_adds_a_row_of_its_client.ensures c.further_steps_take_nothing_away.ensures.joined c.a_stop_is_for_good.ensures.next
    c.take.ensures.takes
