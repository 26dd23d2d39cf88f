use Rattle.std.proofs.Common.{◌∙◌}
use Rattle.file_format.proofs.FoundMembers.{found_text}
use Rattle.file_format.proofs.document.Document.string.Goals as goal

pub returns-in_err-get : goal.returns-in_err-get
returns-in_err-get c = rw c.from_residual.ensures (found_text c.args.self.now c.args.name.now _ c.in_err-get.ensures)

pub returns : goal.returns
returns c = c.as_str.ensures ∙ found_text c.args.self.now c.args.name.now _ c.in_ok-get.ensures
