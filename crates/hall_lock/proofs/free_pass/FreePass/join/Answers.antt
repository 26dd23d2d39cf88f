use Rattle.std.proofs.Common.{List, ap, subst, sym, ◌∙◌}
use Rattle.recorder.specs.declared.row.Row.{Row}
use Rattle.world_steps.specs.Lasting.{Grows}
use Rattle.hall_lock.specs.declared.rule.View.{View}
use Rattle.hall_lock.specs.Turns.{AreRecorded, HasNoCall, ClientView}
use Rattle.hall_lock.proofs.FreeTurns.{refused}
use Rattle.hall_lock.proofs.Joining.{entered, joins_world, seat_rows}
use Rattle.hall_lock.proofs.Running.{joined_runs}
use Rattle.hall_lock.proofs.OneTurn.{same_returns}
use Rattle.hall_lock.proofs.free_pass.FreePass.join.Goals as goal

pub give_named-requires : goal.give_named-requires
give_named-requires g c =
    let in_it = entered c.self.inside.door c.receive-hall.new.self c.receive-hall.result c.join_in.new.hall c.args.client
    c.self.invariant.0 c.receive-hall.ensures.received
    (joins_world c.receive-hall.result c.join_in.new.hall c.args.client c.in-Ok.ensures.adds c.in-Ok.ensures.joined.0
    c.in-Ok.ensures.joined.2) in
    record { free = in_it.0; joined = in_it.1 }

pub give_back-requires : goal.give_back-requires
give_back-requires g c = same_returns c.self.inside.door c.receive-hall.new.self c.receive-hall.result c.join_in.new.hall
    c.receive-hall.ensures.received c.in-Err.ensures.refused

pub new-requires-clause-recorded : goal.new-requires-clause-recorded
new-requires-clause-recorded g c = subst AreRecorded (sym (ap (λ (y : View). y.rows) c.give_named.ensures.seat))
    c.give_named.ensures.recorded

pub returns-in-Ok-clause-rows : goal.returns-in-Ok-clause-rows
returns-in-Ok-clause-rows g c =
    subst (λ (y : List Row × List Row). Grows y.0 y.1 × HasNoCall c.args.client y.1)
    (λ i. (c.self.view_is i, sym (ap (λ (s : ClientView). s.rows) c.new.ensures) i))
    (seat_rows c.self.inside.door c.receive-hall.new.self c.give_named.new.self c.receive-hall.result c.join_in.new.hall c.args.client
    c.receive-hall.ensures.received
    c.receive-hall.ensures.sound (joins_world c.receive-hall.result c.join_in.new.hall c.args.client c.in-Ok.ensures.adds
    c.in-Ok.ensures.joined.0 c.in-Ok.ensures.joined.2) c.give_named.ensures.seat)

pub returns-in-Ok-clause-running : goal.returns-in-Ok-clause-running
returns-in-Ok-clause-running g c =
    ap (λ (s : ClientView). s.is_stopped) c.new.ensures ∙ ap (λ (y : View). y.is_stopped) c.give_named.ensures.seat ∙ joined_runs
    c.receive-hall.result c.join_in.new.hall c.args.client c.in-Ok.ensures.joined.2

pub returns-in-Err-clause-why : goal.returns-in-Err-clause-why
returns-in-Err-clause-why g c = rw (← c.self.view_is)
    (refused c.receive-hall.ensures.received c.give_back.ensures.back c.receive-hall.ensures.replay c.receive-hall.ensures.sound
    c.in-Err.ensures.why)
