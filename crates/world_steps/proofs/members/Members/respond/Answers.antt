use Rattle.std.proofs.Common.{ap, ◌∙◌}
use Rattle.client_phases.specs.Clients.{answer_of, client_after_respond}
use Rattle.client_phases.specs.declared.clients.Client.{Client}
use Rattle.world_steps.proofs.Written.{found_client, no_client, same_client, written}
use Rattle.world_steps.proofs.members.Members.respond.Goals as goal
use Rattle.world_steps.proofs.members.Members.respond.Goals.{in-Some, in-None}

pub respond-requires : goal.respond-requires
respond-requires c = c.requires c.in-Some.client.now (rw (← c.self.view_is) (found_client c.self.inside.clients c.args.name c.in-Some.client.now (rw c.get.ensures.name at c.in-Some.ensures.value)))

pub returns-clause-after : goal.returns-clause-after
returns-clause-after c = λ client found.
    elim c.match-get_mut.branch [
      | in-Some w ↦
          rw (w.self-inside-is, ← c.self.view_is)
          (written c.self.inside.joined.items c.self.inside.clients (c.get_mut.follows.lender w.respond.new.self) c.args.name w.in-Some.client.now client w.respond.new.self client_after_respond
          (rw c.get.ensures.name at w.in-Some.ensures.value) (rw (← c.self.view_is) at found) (rw c.get.ensures.name at (c.get_mut.follows.holds w.respond.new.self)) w.respond.ensures.after)
      | in-None w ↦ absurd (no_client c.self.inside.clients c.args.name client (rw c.get.ensures.name at w.in-None.ensures.value) (rw (← c.self.view_is) at found))
    ]

pub returns-clause-answer : goal.returns-clause-answer
returns-clause-answer c = λ client found.
    elim c.match-get_mut.branch [
      | in-Some w ↦ w.result-is ∙ w.respond.ensures.answer ∙ ap (λ (k : Client). answer_of k)
          (same_client c.self.inside.clients c.args.name w.in-Some.client.now client (rw c.get.ensures.name at w.in-Some.ensures.value) (rw (← c.self.view_is) at found))
      | in-None w ↦ absurd (no_client c.self.inside.clients c.args.name client (rw c.get.ensures.name at w.in-None.ensures.value) (rw (← c.self.view_is) at found))
    ]
