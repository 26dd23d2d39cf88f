use Rattle.kept_zones.proofs.places.Places.first_of_all.Goals as goal

pub returns : goal.returns
returns c = rw (← c.self.view_is) (c.first_of_all.ensures _ (c.first_of_all-second.ensures _ c.first_of_all-more.ensures))
