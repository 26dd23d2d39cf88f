use Rattle.pictures.proofs.arrows.append_shaft.Goals as goal

pub returns : goal.returns
returns c = rw c.arrow_corners.ensures at c.append_polyline.ensures
