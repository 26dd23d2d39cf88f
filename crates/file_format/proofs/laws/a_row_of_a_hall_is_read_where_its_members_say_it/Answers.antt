use Rattle.file_format.proofs.SayingHalls.{hall_row_back, hall_row_there}
use Rattle.file_format.proofs.laws.a_row_of_a_hall_is_read_where_its_members_say_it.Goals as goal

pub returns : goal.returns
returns c = λ header d item. (hall_row_back header d item, hall_row_there header d item)
