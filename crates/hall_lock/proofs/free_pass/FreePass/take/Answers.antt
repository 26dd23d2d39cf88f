use Rattle.hall_lock.proofs.FreeTurns.{guest_turned, served}
use Rattle.hall_lock.proofs.free_pass.FreePass.take.Goals as goal

pub returns : goal.returns
returns g c = rw (← c.self.view_is)
    (served c.self.inside.door c.take.new.self c.args.step c.take.result c.take.ensures)

pub invariant_of-self : goal.invariant_of-self
invariant_of-self g c = guest_turned c.self.inside.door c.take.new.self c.args.step c.take.result c.self.invariant.0 c.take.ensures
