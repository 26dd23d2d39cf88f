use Rattle.file_format.proofs.WrittenHalls.{made_same}
use Rattle.file_format.proofs.laws.bytes_are_read_as_the_same_histories.Goals as goal

pub returns : goal.returns
returns c = λ bytes a b h k. made_same bytes a b h k
