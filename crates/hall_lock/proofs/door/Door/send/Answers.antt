use Rattle.std.proofs.Common.{◌≡◌, sym, subst}
use Rattle.crossbeam_channel.specs.Ends.{ruled_capacity, sends_on}
use Rattle.crossbeam_channel.specs.Fifo.{Learns, Pushes}
use Rattle.hall_journal.specs.Halls.{Hall}
use Rattle.hall_lock.specs.declared.rule.View.{View}
use Rattle.hall_lock.specs.Turns.{HasOneHall}
use Rattle.hall_lock.proofs.door.Door.send.Goals as goal

pub send_as-requires-clause-rule : goal.send_as-requires-clause-rule
send_as-requires-clause-rule g c =
    let i = c.loop.invariant in
    let pass = c.loop.self-inside.pass.id in
    let size = ruled_capacity (sends_on c.loop.self-inside.sender) in (
      subst (λ (y : View × Hall). Pushes HasOneHall size pass y.0 y.1 (g.M.Outcome.then y.0 y.1)) (λ k. (sym i.2 k, sym i.3 k))
          (c.requires.may size pass),
      subst (λ (y : View). Learns HasOneHall pass y (g.M.Lesson.fact y)) (sym i.2) (c.requires.learns pass),
    )

-- a move of equal views and halls is the same move
same_move : (then : View → Hall → View → Type 0) (v w new : View) (hall back : Hall) → v ≡ w → hall ≡ back → then v hall new
    → then w back new
same_move then v w new hall back views halls moved = subst (λ (y : View × Hall). then y.0 y.1 new) (λ k. (views k, halls k)) moved

pub returns-in-Ok : goal.returns-in-Ok
returns-in-Ok g c = same_move g.M.Outcome.then _ _ _ _ _ c.loop.invariant.2 c.loop.invariant.3 c.in-Ok.ensures.rule
