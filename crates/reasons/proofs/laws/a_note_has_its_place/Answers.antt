use Rattle.reasons.proofs.NotePlaces.{its_place}
use Rattle.reasons.proofs.laws.a_note_has_its_place.Goals as goal

pub returns : goal.returns
returns c = its_place
