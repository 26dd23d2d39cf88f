use Rattle.std.proofs.Common.{ap, ◌∙◌}
use Rattle.std.specs.FinSet as finite
use Rattle.quorum.proofs.BitLemmas.{contains-shr}
use Rattle.quorum.proofs.sets.ReplicaSet.has.Goals as goal

pub returns : goal.returns
returns c = contains-shr c.self.inside.bits c.args.number c.requires ∙ ap (λ set. finite.contains set c.args.number) c.self.view_is
