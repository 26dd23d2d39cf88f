use Rattle.std.proofs.Common.{ap, ◌∙◌}
use Rattle.hall_lock.specs.Turns.{last_of, seat_in}
use Rattle.hall_lock.proofs.Moves.{joins, last_of-push}
use Rattle.hall_lock.proofs.OneTurn.{recorded}
use Rattle.hall_lock.proofs.door.Door.give_named.Goals as goal

pub send-requires-clause-may : goal.send-requires-clause-may
send-requires-clause-may g c =
    let entered = c.requires.joined in
    λ size pass. joins size pass _ _ entered.old c.args.client c.requires.free entered.held entered.enters

pub send-requires-clause-learns : goal.send-requires-clause-learns
send-requires-clause-learns g c = λ _ _ _ _ _. tt

pub returns-clause-seat : goal.returns-clause-seat
returns-clause-seat g c =
    c.send.ensures ∙ ap (λ n. seat_in n c.args.hall.world) (ap last_of c.requires.joined.enters.names
    ∙ last_of-push c.requires.joined.old.members.joined c.args.client)

pub returns-clause-recorded : goal.returns-clause-recorded
returns-clause-recorded g c = recorded c.args.hall c.attest.ensures.replay c.attest.ensures.sound c.attest.ensures.formed
