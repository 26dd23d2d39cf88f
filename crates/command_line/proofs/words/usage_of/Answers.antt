use Rattle.std.proofs.Common.{rules}
use Rattle.command_line.proofs.words.usage_of.Goals as goal

pub returns-in_default-kind : goal.returns-in_default-kind
returns-in_default-kind c = search rules
