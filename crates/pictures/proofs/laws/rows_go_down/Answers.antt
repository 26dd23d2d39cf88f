use Rattle.std.proofs.Common.{arith}
use Rattle.pictures.proofs.Readable.{rows_down}
use Rattle.pictures.proofs.laws.rows_go_down.Goals as goal

pub returns : goal.returns
returns c = record { rows = rows_down; height = omega arith }
