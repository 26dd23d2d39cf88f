use Rattle.std.proofs.Common.{rules}
use Rattle.witness_order.proofs.tag_order.sorted_keys.Goals as goal

pub returns-clause-sorted : goal.returns-clause-sorted
returns-clause-sorted c = search rules
