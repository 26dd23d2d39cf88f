use Rattle.std.proofs.Common.{◌∙◌, ap, ◌++◌, ◌∷◌, []}
use Rattle.world_steps.proofs.Written.{added}
use Rattle.world_steps.proofs.members.Members.add.Goals as goal

pub returns-clause-ok : goal.returns-clause-ok
returns-clause-ok c =
    rw (← c.self.view_is)
    (added c.self.inside.joined.items c.push.new.self.items c.self.inside.clients c.insert.new.self c.args.name c.args.client
    (c.in_ok-push.ensures.items ∙ ap (λ l. l ++ c.args.name ∷ []) c.reserve.ensures.items) (rw c.get.ensures.name at c.in_ok-insert.ensures.updates))
