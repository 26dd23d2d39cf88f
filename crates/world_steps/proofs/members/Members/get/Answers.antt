use Rattle.std.proofs.Common.{sym, ◌∙◌}
use Rattle.std.specs.Cmp.{nat_cmp_total}
use Rattle.replica.proofs.Maps.{get-from_tree}
use Rattle.world_steps.proofs.members.Members.get.Goals as goal

pub returns : goal.returns
returns c = rw (← c.self.view_is) (rw c.get.ensures.name at (c.get-2.ensures.value) ∙ sym (get-from_tree nat_cmp_total c.self.inside.clients c.args.name))
