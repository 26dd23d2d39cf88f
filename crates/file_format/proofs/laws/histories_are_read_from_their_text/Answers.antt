use Rattle.file_format.proofs.WrittenHalls.{histories_text_of}
use Rattle.file_format.proofs.laws.histories_are_read_from_their_text.Goals as goal

pub returns : goal.returns
returns c = λ histories halls lawful formed ranges. histories_text_of histories halls lawful formed ranges
