use Rattle.growing_parts.proofs.Beginning.{call_begins}
use Rattle.growing_parts.proofs.laws.a_call_that_begins.Goals as goal

pub returns : goal.returns
returns c rows key gone before op client action formed may is are = call_begins rows formed key gone before is are op client action may
