use Rattle.reasons.proofs.ListedCalls.{last_written}
use Rattle.reasons.proofs.laws.the_last_write_wrote_the_value.Goals as goal

pub returns : goal.returns
returns c = last_written
