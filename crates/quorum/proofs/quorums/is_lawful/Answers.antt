use Rattle.std.proofs.Common.{rules}
use Rattle.quorum.proofs.quorums.is_lawful.Goals as goal

pub returns-then-put-total : goal.returns-then-put-total
returns-then-put-total c = search rules
