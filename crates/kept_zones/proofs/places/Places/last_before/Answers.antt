use Rattle.kept_zones.proofs.places.Places.last_before.Goals as goal

pub returns : goal.returns
returns c = rw (← c.self.view_is) (c.last_before.ensures _ (c.last_before-second.ensures _ c.last_before-more.ensures))
