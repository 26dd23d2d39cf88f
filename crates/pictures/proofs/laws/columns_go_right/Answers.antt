use Rattle.std.proofs.Common.{arith}
use Rattle.pictures.proofs.Readable.{bars_right, columns_right, wide}
use Rattle.pictures.proofs.laws.columns_go_right.Goals as goal

pub returns : goal.returns
returns c = record {
  columns = columns_right;
  bars = bars_right;
  width = λ scene. omega (arith, wide scene);
}
