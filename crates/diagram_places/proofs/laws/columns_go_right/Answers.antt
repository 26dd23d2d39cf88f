use Rattle.std.proofs.Common.{arith}
use Rattle.diagram_places.proofs.Readable.{columns_right, replicas_after}
use Rattle.diagram_places.proofs.laws.columns_go_right.Goals as goal

pub returns : goal.returns
returns c = record { columns = columns_right; replicas = replicas_after; width = omega arith }
