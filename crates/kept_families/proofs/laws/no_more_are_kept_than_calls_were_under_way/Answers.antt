use Rattle.kept_families.proofs.Counting.{kept_are_few}
use Rattle.kept_families.proofs.laws.no_more_are_kept_than_calls_were_under_way.Goals as goal

pub returns : goal.returns
returns c = kept_are_few
