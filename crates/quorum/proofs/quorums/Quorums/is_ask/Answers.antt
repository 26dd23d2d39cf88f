use Rattle.std.proofs.Common.{rules}
use Rattle.quorum.proofs.quorums.Quorums.is_ask.Goals as goal

pub returns : goal.returns
returns c = search rules
