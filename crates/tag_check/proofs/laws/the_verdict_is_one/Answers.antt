use Rattle.tag_check.proofs.OneVerdict.{one_verdict}
use Rattle.tag_check.proofs.laws.the_verdict_is_one.Goals as goal

pub returns : goal.returns
returns c = one_verdict
