use Rattle.kept_families.proofs.GoingOn.{still_kept}
use Rattle.kept_families.proofs.laws.what_is_kept_stays_so_as_the_part_goes_on.Goals as goal

pub returns : goal.returns
returns c before after source later row kept in_before in_after goes entries sound extends now opens = still_kept row before after source later in_before in_after goes entries sound extends now opens kept
