use Rattle.kept_zones.proofs.places.Places.first_after.Goals as goal

pub returns : goal.returns
returns c = rw (← c.self.view_is) (c.first_after.ensures _ (c.first_after-second.ensures _ c.first_after-more.ensures))
