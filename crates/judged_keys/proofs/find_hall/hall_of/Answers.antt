-- The hall's number is below their count, and each hall has its list of lines.
use Rattle.std.proofs.Common.{◌≡◌, ◌<◌, ℕ, List, length, Some, slice_get, ap, refl, subst, ◌∙◌, arith}
use Rattle.recorder.specs.Halls.{hall_of}
use Rattle.recorder.specs.Histories.{Recorded}
use Rattle.tag.proofs.Lists.{item_at}
use Rattle.judged_keys.proofs.find_hall.hall_of.Goals as goal

pub returns : goal.returns
returns c =
    let key = c.args.key.now in
    let hall = c.from-hall.result in
    let halls = c.halls-histories.result.now in
    let count : c.in-Some.halls ≡ length halls = c.in-Some.ensures.value in
    let below : hall < length halls = omega (arith, c.from-hall.ensures, c.of.ensures.below, count) in
    let listed : hall < length c.args.numbered.now.lines.items = omega (arith, below, c.requires, ap length c.halls-histories.ensures.halls) in
    let history = c.index-histories-hall.result in
    record {
      number = hall;
      its = c.from-hall.ensures ∙ c.of.ensures.hall ∙ ap (λ (n : ℕ). hall_of n key) (count ∙ ap length c.halls-histories.ensures.halls);
      history = history;
      recorded = subst (λ (hs : List Recorded). slice_get hs hall ≡ Some history) c.halls-histories.ensures.halls (item_at halls hall history below c.index-histories-hall.is);
      rows = refl;
      lines = item_at c.args.numbered.now.lines.items hall c.index.result.now listed c.index.ensures;
    }
