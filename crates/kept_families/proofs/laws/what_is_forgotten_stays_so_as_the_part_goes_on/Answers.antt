use Rattle.kept_families.proofs.GoingOn.{still_forgotten}
use Rattle.kept_families.proofs.laws.what_is_forgotten_stays_so_as_the_part_goes_on.Goals as goal

pub returns : goal.returns
returns c before after source later row u v in_before in_after goes entries sound extends = still_forgotten row before after source later in_before in_after goes entries sound extends u v
