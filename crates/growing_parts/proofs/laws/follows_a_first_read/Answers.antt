use Rattle.growing_parts.proofs.Empty.{first_read}
use Rattle.growing_parts.proofs.laws.follows_a_first_read.Goals as goal

pub returns : goal.returns
returns c after source place op call state opens k empty b reads has = first_read source place after call state k empty b reads op opens has
