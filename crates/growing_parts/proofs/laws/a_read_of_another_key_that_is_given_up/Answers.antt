use Rattle.std.proofs.Common.{inr}
use Rattle.tag.specs.declared.actions.Action.TheVariants.{Read}
use Rattle.growing_parts.proofs.Leaving.{without_other}
use Rattle.growing_parts.proofs.NextParts.{outside}
use Rattle.growing_parts.proofs.laws.a_read_of_another_key_that_is_given_up.Goals as goal

pub returns : goal.returns
returns c rows key gone part op client other formed begun apart is =
    without_other rows key gone part is op
    (outside rows formed key gone part is op (inr (client, other, Read, apart, begun)))
