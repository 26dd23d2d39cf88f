use Rattle.split_rows.proofs.Splitting.{pieces_of}
use Rattle.split_rows.proofs.laws.a_splitter_has_the_pieces_of_its_rows.Goals as goal

pub returns : goal.returns
returns c = pieces_of
