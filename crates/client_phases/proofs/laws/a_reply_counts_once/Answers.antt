use Rattle.client_phases.proofs.Again.{stale_again}
use Rattle.client_phases.proofs.laws.a_reply_counts_once.Goals as goal

pub returns : goal.returns
returns c = stale_again
