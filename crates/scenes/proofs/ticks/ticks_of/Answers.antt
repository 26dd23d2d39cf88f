use Rattle.std.proofs.lemmas.List.Filters.{dedup_is}
use Rattle.scenes.specs.Scenes.{HasPlace}
use Rattle.scenes.proofs.Rising.{rising_list, place_has, place_there}
use Rattle.scenes.proofs.ticks.ticks_of.Goals as goal

pub returns : goal.returns
returns c =
    let bars = c.args.bars.now in
    let start = c.in_ok-ticks.ensures in
    rising_list (HasPlace bars) c.in_ok-ticks.ticks.items _ _ (λ n h. place_has bars n (rw start at h))
    (λ n h. rw start (place_there bars n h)) c.sort_unstable.ensures.permutation c.sort_unstable.ensures.sorted
    (dedup_is _ _ _ c.dedup.ensures.filtered)
