use Rattle.std.proofs.lemmas.List.Filters.{dedup_is}
use Rattle.message_scenes.proofs.Rising.{risen}
use Rattle.message_scenes.proofs.sketch.raise.Goals as goal

pub returns : goal.returns
returns c =
    risen c.args.names.now.items _ _ c.sort_unstable.ensures.permutation c.sort_unstable.ensures.sorted
    (dedup_is _ _ _ c.dedup.ensures.filtered)
