use Rattle.reasons.proofs.Rules.{no_rule}
use Rattle.reasons.proofs.laws.tags_with_a_reason_are_not_sound.Goals as goal

pub returns : goal.returns
returns c part reason breaks sound = no_rule part sound reason breaks
