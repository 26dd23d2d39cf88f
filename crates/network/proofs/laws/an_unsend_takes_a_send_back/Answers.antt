use Rattle.network.proofs.Unsending.{unsent-sent}
use Rattle.network.proofs.laws.an_unsend_takes_a_send_back.Goals as goal

pub returns : goal.returns
returns c = unsent-sent
