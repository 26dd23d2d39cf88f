use Rattle.file_format.proofs.NumberedTexts.{numbered_text_of}
use Rattle.file_format.proofs.laws.numbered_rows_are_read_from_their_text.Goals as goal

pub returns : goal.returns
returns c = λ numbered formed ranges. numbered_text_of numbered formed ranges
