use Rattle.kept_zones.proofs.places.Places.last_up_to.Goals as goal

pub returns : goal.returns
returns c = rw (← c.self.view_is) (c.last_up_to.ensures _ (c.last_up_to-second.ensures _ c.last_up_to-more.ensures))
