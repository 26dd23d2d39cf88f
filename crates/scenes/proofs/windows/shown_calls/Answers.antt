use Rattle.std.proofs.lemmas.List.Filters.{dedup_is}
use Rattle.scenes.specs.Windows.{IsToShow}
use Rattle.scenes.proofs.Around.{IsSelection-shown}
use Rattle.scenes.proofs.Rising.{rising_list}
use Rattle.scenes.proofs.windows.shown_calls.Goals as goal

pub returns : goal.returns
returns c =
    let part = c.args.part.now in
    let window = c.args.window in
    let kept = c.args.kept.now in
    let start = c.in_ok-shown.shown.items in
    let has = c.in_ok-shown.ensures in
    let are = rising_list (IsToShow part window kept) start _ _ (λ n. (has n).0) (λ n. (has n).1) c.sort_unstable.ensures.permutation
    c.sort_unstable.ensures.sorted (dedup_is _ _ _ c.dedup.ensures.filtered) in
    record { calls = are; selection = IsSelection-shown part window kept _ are }
