use Rattle.std.proofs.Common.{arith}
use Rattle.pictures.proofs.Readable.{dot_on_bar}
use Rattle.pictures.proofs.laws.a_dot_stands_on_its_bar.Goals as goal

pub returns : goal.returns
returns c = record {
  on = λ scene index dot bar ordered at on within reach. dot_on_bar scene ordered index dot at bar on within reach;
  radius = omega arith;
}
