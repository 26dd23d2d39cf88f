use Rattle.growing_parts.proofs.Empty.{nothing_followed}
use Rattle.growing_parts.proofs.laws.an_empty_state_follows_no_calls.Goals as goal

pub returns : goal.returns
returns c source row state k empty = nothing_followed source row state k empty
