use Rattle.std.proofs.Common.{rules}
use Rattle.value_explanations.proofs.oppositions.Opposition.of.Goals as goal

pub returns-else-is_one-2 : goal.returns-else-is_one-2
returns-else-is_one-2 c = search rules
