use Rattle.std.proofs.Common.{rules}
use Rattle.traces.proofs.step_words.append_replica.Goals as goal

pub returns : goal.returns
returns c = search rules
