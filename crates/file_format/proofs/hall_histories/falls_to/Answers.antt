use Rattle.std.proofs.Common.{rules}
use Rattle.file_format.proofs.hall_histories.falls_to.Goals as goal

pub returns-in-Read : goal.returns-in-Read
returns-in-Read c = search rules
