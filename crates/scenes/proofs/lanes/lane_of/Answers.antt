use Rattle.std.proofs.Common.{◌∙◌, ap, Some}
use Rattle.std.proofs.lemmas.List.Sorted.{searched}
use Rattle.std.proofs.lemmas.Option.{slice_get-get_or}
use Rattle.scenes.proofs.Rising.{rises, not_there}
use Rattle.scenes.proofs.lanes.lane_of.Goals as goal

pub unreachable-requires : goal.unreachable-requires
unreachable-requires c =
    let lanes = c.args.lanes.now in
    let s = searched lanes c.args.client _ c.binary_search.ensures.position (rises lanes c.requires.rising) in
    let outside = rw c.in-Err.is at s in
    not_there lanes c.args.client _ c.requires.there outside.1 outside.2

pub returns : goal.returns
returns c =
    let lanes = c.args.lanes.now in
    let s = searched lanes c.args.client _ c.binary_search.ensures.position (rises lanes c.requires.rising) in
    let found = rw c.in-Ok.is at s in
    slice_get-get_or lanes c.in-Ok.lane 0 found.0 ∙ ap Some found.1
