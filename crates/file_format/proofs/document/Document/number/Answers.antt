use Rattle.std.proofs.Common.{◌∙◌}
use Rattle.file_format.proofs.FoundMembers.{found_number}
use Rattle.file_format.proofs.document.Document.number.Goals as goal

pub returns-in_err-get : goal.returns-in_err-get
returns-in_err-get c = rw c.from_residual.ensures (found_number c.args.self.now c.args.name.now _ c.in_err-get.ensures)

pub returns : goal.returns
returns c = c.number_in.ensures ∙ found_number c.args.self.now c.args.name.now _ c.in_ok-get.ensures
