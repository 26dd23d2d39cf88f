use Rattle.std.proofs.lemmas.List.Filters.{dedup_is}
use Rattle.scenes.specs.Scenes.{HasCallOf}
use Rattle.scenes.proofs.Rising.{rising_list}
use Rattle.scenes.proofs.lanes.lanes_of.Goals as goal

pub returns : goal.returns
returns c =
    let has = c.in_ok-lanes.ensures in
    rising_list (HasCallOf c.args.part.now c.args.shown.now) c.in_ok-lanes.lanes.items _ _ (λ n. (has n).0) (λ n. (has n).1)
    c.sort_unstable.ensures.permutation c.sort_unstable.ensures.sorted (dedup_is _ _ _ c.dedup.ensures.filtered)
