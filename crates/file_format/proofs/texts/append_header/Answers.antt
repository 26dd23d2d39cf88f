use Rattle.std.proofs.Common.{rules, append_assoc}
use Rattle.std.proofs.lemmas.Result.{IfOk-equal}
use Rattle.file_format.proofs.Spelling.{header_bytes}
use Rattle.file_format.proofs.texts.append_header.Goals as goal

pub returns : goal.returns
returns c = rw header_bytes (search (rules, IfOk-equal, append_assoc))
