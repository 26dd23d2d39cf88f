use Rattle.file_format.proofs.AsciiTexts.{utf8_of}
use Rattle.file_format.proofs.beginnings.is_text.Goals as goal

pub returns-then-ascii : goal.returns-then-ascii
returns-then-ascii c = λ h. utf8_of c.args.bytes.now (c.requires c.if-ascii.true)
