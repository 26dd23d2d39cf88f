use Rattle.std.proofs.Common.{ℕ, ap}
use Rattle.diagram_places.specs.Layout.{across}
use Rattle.diagram_places.proofs.Counts.{names_before}
use Rattle.diagram_places.proofs.laws.each_client_has_its_column.Goals as goal

pub returns : goal.returns
returns c = λ scene rises. record {
  client = λ i name start at. ap (λ (column : ℕ). across start column) (names_before scene.clients.items rises i name at);
}
