use Rattle.pictures.proofs.Crossing.{shown_with_texts}
use Rattle.pictures.proofs.laws.a_strip_shows_the_bars_of_its_texts.Goals as goal

pub returns : goal.returns
returns c = shown_with_texts
