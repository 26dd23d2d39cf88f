use Rattle.diagram_places.proofs.Hiding.{hides}
use Rattle.diagram_places.proofs.laws.a_curtain_hides_the_rows_after_its_own.Goals as goal

pub returns : goal.returns
returns c = hides
