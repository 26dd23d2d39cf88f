use Rattle.growing_parts.proofs.NextParts.{part_of_none, none_of_part}
use Rattle.growing_parts.proofs.laws.a_part_without_none_is_the_part.Goals as goal

pub returns : goal.returns
returns c rows key part = (none_of_part rows key part, part_of_none rows key part)
