use Rattle.client_phases.specs.Clients.{client_after_stop}
use Rattle.world_steps.proofs.Written.{written, no_client}
use Rattle.world_steps.proofs.members.Members.stop.Goals as goal
use Rattle.world_steps.proofs.members.Members.stop.Goals.{in-Some, in_default}

pub returns : goal.returns
returns c = λ client found.
    elim c.match-get_mut.branch [
      | in-Some w ↦
          rw (w.self-inside-is, ← c.self.view_is)
          (written c.self.inside.joined.items c.self.inside.clients (c.get_mut.follows.lender w.stop.new.self) c.args.name w.in-Some.client.now client w.stop.new.self client_after_stop
          (rw c.get.ensures.name at w.in-Some.ensures.value) (rw (← c.self.view_is) at found) (rw c.get.ensures.name at (c.get_mut.follows.holds w.stop.new.self)) w.stop.ensures)
      | in_default w ↦ absurd (no_client c.self.inside.clients c.args.name client (rw c.get.ensures.name at w.in_default.ensures.value) (rw (← c.self.view_is) at found))
    ]
