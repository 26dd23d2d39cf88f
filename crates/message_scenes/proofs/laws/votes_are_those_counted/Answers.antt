use Rattle.message_scenes.proofs.Heard.{heard_so}
use Rattle.message_scenes.proofs.laws.votes_are_those_counted.Goals as goal

pub returns : goal.returns
returns c = heard_so
