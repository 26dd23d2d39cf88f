use Rattle.std.proofs.Common.{rules}
use Rattle.file_format.proofs.file_header.FileHeader.of.Goals as goal

pub returns-in-Some-new-clause-header : goal.returns-in-Some-new-clause-header
returns-in-Some-new-clause-header c = search rules
