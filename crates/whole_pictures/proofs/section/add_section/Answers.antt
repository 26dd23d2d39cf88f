-- What was found of the hall's keys can be shown of its history.
use Rattle.std.proofs.Common.{map, subst, sym, ◌∙◌}
use Rattle.std.proofs.lemmas.Option.{same_Some}
use Rattle.recorder.specs.Histories.{Recorded}
use Rattle.parallel_keys.specs.KeysToCheck.{what_of}
use Rattle.whole_pictures.specs.WholeScenes.{CanBeShown}
use Rattle.whole_pictures.proofs.Showing.{can_be_shown}
use Rattle.whole_pictures.proofs.section.add_section.Goals as goal

pub draw_hall-requires-clause-shown : goal.draw_hall-requires-clause-shown
draw_hall-requires-clause-shown c =
    let keys = c.requires.keys in
    let hall = c.hall_at-hall.result in
    let t = c.in_ok-together.together in
    subst (λ (history : Recorded). CanBeShown history.rows t) (same_Some keys.history hall.history.now (sym keys.recorded ∙ c.hall_at-hall.ensures.recorded))
    (can_be_shown c.args.task.now.drawn.selection.judged keys.history.rows keys.parts keys.orders (map what_of c.args.keys.now) t keys.are keys.keys c.in_ok-together.ensures)
