use Rattle.file_format.proofs.SayingPieces.{header_back, header_there}
use Rattle.file_format.proofs.laws.a_header_is_read_where_its_members_say_it.Goals as goal

pub returns : goal.returns
returns c = λ name d. (header_back name d, header_there name d)
