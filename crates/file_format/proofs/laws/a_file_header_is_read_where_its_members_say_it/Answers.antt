use Rattle.file_format.proofs.SayingHalls.{file_header_back, file_header_there}
use Rattle.file_format.proofs.laws.a_file_header_is_read_where_its_members_say_it.Goals as goal

pub returns : goal.returns
returns c = λ d header. (file_header_back d header, file_header_there d header)
