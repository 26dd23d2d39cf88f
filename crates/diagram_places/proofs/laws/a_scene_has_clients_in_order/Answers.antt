use Rattle.diagram_places.proofs.laws.a_scene_has_clients_in_order.Goals as goal

pub returns : goal.returns
returns c = λ script most last scene is. is.shows.clients.rises
