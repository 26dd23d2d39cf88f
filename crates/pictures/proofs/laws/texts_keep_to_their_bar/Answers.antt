use Rattle.pictures.proofs.Readable.{texts_inside}
use Rattle.pictures.proofs.laws.texts_keep_to_their_bar.Goals as goal

pub returns : goal.returns
returns c = texts_inside
