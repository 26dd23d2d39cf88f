use Rattle.client_phases.specs.Clients.{client_after}
use Rattle.world_steps.proofs.Written.{written, no_client, found_client}
use Rattle.world_steps.proofs.members.Members.take.Goals as goal
use Rattle.world_steps.proofs.members.Members.take.Goals.{in-Some, in_default+in-Held+in-Some-1, in_default+in-Held+in-None-1, in_default+in-Kept-1}

pub take-requires : goal.take-requires
take-requires c = c.requires c.in-Some.client.now (rw (← c.self.view_is) (found_client c.self.inside.clients c.args.name c.in-Some.client.now (rw c.get.ensures.name at c.in-Some.ensures.value)))

pub returns : goal.returns
returns c = λ client found.
    elim c.match-get_mut.branch [
      | in-Some w ↦
          rw (w.self-inside-is, ← c.self.view_is)
          (written c.self.inside.joined.items c.self.inside.clients (c.get_mut.follows.lender w.take.new.self) c.args.name w.in-Some.client.now client w.take.new.self (λ x. client_after x c.args.reply)
          (rw c.get.ensures.name at w.in-Some.ensures.value) (rw (← c.self.view_is) at found) (rw c.get.ensures.name at (c.get_mut.follows.holds w.take.new.self)) w.take.ensures.after)
      | in_default+in-Held+in-Some-1 w ↦ absurd (no_client c.self.inside.clients c.args.name client (rw c.get.ensures.name at w.in_default.ensures.value) (rw (← c.self.view_is) at found))
      | in_default+in-Held+in-None-1 w ↦ absurd (no_client c.self.inside.clients c.args.name client (rw c.get.ensures.name at w.in_default.ensures.value) (rw (← c.self.view_is) at found))
      | in_default+in-Kept-1 w ↦ absurd (no_client c.self.inside.clients c.args.name client (rw c.get.ensures.name at w.in_default.ensures.value) (rw (← c.self.view_is) at found))
    ]
