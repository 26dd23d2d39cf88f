use Rattle.file_format.proofs.SayingPieces.{piece_back, piece_there}
use Rattle.file_format.proofs.laws.a_piece_is_read_where_its_members_say_it.Goals as goal

pub returns : goal.returns
returns c = λ d piece. (piece_back d piece, piece_there d piece)
