use Rattle.diagram_places.proofs.Readable.{client_edges, replica_edges}
use Rattle.diagram_places.proofs.laws.edges_are_near_their_lifelines.Goals as goal

pub returns : goal.returns
returns c = record { clients = client_edges; replicas = replica_edges }
