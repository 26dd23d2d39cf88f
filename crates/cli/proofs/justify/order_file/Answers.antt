use Rattle.std.proofs.Common.{rules}
use Rattle.cli.proofs.justify.order_file.Goals as goal

pub returns-in-Ok : goal.returns-in-Ok
returns-in-Ok c = search rules
