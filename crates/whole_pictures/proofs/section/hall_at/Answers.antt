-- The hall's number is below their count, and each hall has its list of lines.
use Rattle.std.proofs.Common.{◌≡◌, ◌<◌, List, length, Some, slice_get, ap, subst, arith}
use Rattle.recorder.specs.Histories.{Recorded}
use Rattle.tag.proofs.Lists.{item_at}
use Rattle.whole_pictures.proofs.section.hall_at.Goals as goal

pub returns : goal.returns
returns c =
    let n = c.args.number in
    let halls = c.halls-histories.result.now in
    let same = c.halls-histories.ensures.halls in
    let below : n < length halls = omega (arith, c.requires.number, ap length same) in
    let listed : n < length c.args.numbered.now.lines.items = omega (arith, c.requires.number, c.requires.lines) in
    let history = c.index-histories-number.result in
    record {
      recorded = subst (λ (hs : List Recorded). slice_get hs n ≡ Some history) same (item_at halls n history below c.index-histories-number.is);
      lines = item_at c.args.numbered.now.lines.items n c.index.result.now listed c.index.ensures;
    }
