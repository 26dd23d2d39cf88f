use Rattle.std.proofs.Common.{refl}
use Rattle.diagrams.proofs.laws.a_row_links_its_line.Goals as goal

pub returns : goal.returns
returns c = λ line. refl
