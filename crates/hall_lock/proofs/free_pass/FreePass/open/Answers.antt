use Rattle.std.proofs.Common.{◌∙◌, ap}
use Rattle.hall_lock.specs.Turns.{view_at_rest}
use Rattle.hall_lock.proofs.FreeTurns.{guest_recorded, opens}
use Rattle.hall_lock.proofs.free_pass.FreePass.open.Goals as goal

pub give_back-requires : goal.give_back-requires
give_back-requires g c = opens c.args.config c.in_ok-hall.hall c.in_ok-door.door c.in_ok-hall.ensures c.in_ok-door.ensures

pub invariant_of-result : goal.invariant_of-result
invariant_of-result g c =
    guest_recorded c.give_back.new.self c.in_ok-hall.hall (c.give_back.ensures.back ∙ ap (λ y. view_at_rest y c.in_ok-hall.hall.world)
    c.in_ok-door.ensures)
    c.give_back.ensures.recorded
