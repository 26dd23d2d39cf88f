use Rattle.growing_parts.proofs.NextParts.{empty_part}
use Rattle.growing_parts.proofs.laws.an_empty_part.Goals as goal

pub returns : goal.returns
returns c rows key gone unseen = empty_part rows key gone unseen
