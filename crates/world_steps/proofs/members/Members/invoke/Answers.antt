use Rattle.client_phases.specs.Clients.{client_after_invoke}
use Rattle.world_steps.proofs.Written.{written, no_client, found_client}
use Rattle.world_steps.proofs.members.Members.invoke.Goals as goal
use Rattle.world_steps.proofs.members.Members.invoke.Goals.{in-Some, in_default+in-Long-1, in_default+in-Short-1}

pub invoke-requires : goal.invoke-requires
invoke-requires c = c.requires c.in-Some.client.now (rw (← c.self.view_is) (found_client c.self.inside.clients c.args.name c.in-Some.client.now (rw c.get.ensures.name at c.in-Some.ensures.value)))

pub returns : goal.returns
returns c = λ client found.
    elim c.match-get_mut.branch [
      | in-Some w ↦
          rw (w.self-inside-is, ← c.self.view_is)
          (written c.self.inside.joined.items c.self.inside.clients (c.get_mut.follows.lender w.invoke.new.self) c.args.name w.in-Some.client.now client w.invoke.new.self (λ x. client_after_invoke x c.args.op c.args.key c.args.action)
          (rw c.get.ensures.name at w.in-Some.ensures.value) (rw (← c.self.view_is) at found) (rw c.get.ensures.name at (c.get_mut.follows.holds w.invoke.new.self)) w.invoke.ensures)
      | in_default+in-Long-1 w ↦ absurd (no_client c.self.inside.clients c.args.name client (rw c.get.ensures.name at w.in_default.ensures.value) (rw (← c.self.view_is) at found))
      | in_default+in-Short-1 w ↦ absurd (no_client c.self.inside.clients c.args.name client (rw c.get.ensures.name at w.in_default.ensures.value) (rw (← c.self.view_is) at found))
    ]
