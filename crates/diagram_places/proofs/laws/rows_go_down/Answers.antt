use Rattle.std.proofs.Common.{arith}
use Rattle.diagram_places.proofs.Readable.{rows_down}
use Rattle.diagram_places.proofs.laws.rows_go_down.Goals as goal

pub returns : goal.returns
returns c = record { rows = rows_down; height = omega arith }
