use Rattle.kept_families.proofs.GoingOn.{still_free}
use Rattle.kept_families.proofs.laws.what_is_free_stays_so_as_the_part_goes_on.Goals as goal

pub returns : goal.returns
returns c before after source later row in_before in_after goes entries sound extends now = still_free row before after source later in_before in_after goes entries sound extends now
