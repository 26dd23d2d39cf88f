use Rattle.tag_check.proofs.Refutations.{refuted}
use Rattle.tag_check.proofs.laws.a_broken_rule_is_not_sound.Goals as goal

pub returns : goal.returns
returns c part rule verdict = refuted part rule verdict.1
