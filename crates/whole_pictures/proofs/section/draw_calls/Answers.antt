-- What was found is shown, and the picture is that of the hall.
use Rattle.std.proofs.Common.{ℕ, ◌≡◌, ◌∙◌, List, subst, sym}
use Rattle.std.proofs.lemmas.Result.{on_ok_weaker}
use Rattle.tag.specs.declared.numbers.OpId.{OpId}
use Rattle.recorder.specs.declared.part.Call.{Call}
use Rattle.scenes.specs.declared.scene.Scene.{Scene}
use Rattle.whole_pictures.specs.WholeScenes.{IsShownOf, IsWholeScene}
use Rattle.whole_pictures.proofs.Showing.{in_order, picture_of_hall, section_added}
use Rattle.whole_pictures.proofs.section.draw_calls.Goals as goal

pub whole_scene-requires-clause-apart : goal.whole_scene-requires-clause-apart
whole_scene-requires-clause-apart c = c.all_calls_are_apart.ensures c.args.hall.history.now.rows c.args.calls.now c.requires.calls

pub whole_scene-requires-clause-known : goal.whole_scene-requires-clause-known
whole_scene-requires-clause-known c = rw c.as_slice-order.ensures.value ((c.in_ok-shown.ensures.points c.args.calls.now c.requires.calls).0)

pub whole_scene-requires-clause-kept : goal.whole_scene-requires-clause-kept
whole_scene-requires-clause-kept c = rw c.as_slice-order.ensures.value ((c.in_ok-shown.ensures.points c.args.calls.now c.requires.calls).1)

pub append-requires : goal.append-requires
append-requires c =
    let drawn = c.args.task.now.drawn in
    let rows = c.args.hall.history.now.rows in
    rw c.picture_of-picture.ensures.scene
    (in_order drawn rows c.args.calls.now c.as_slice-order.result.now c.as_slice-faulty.result.now c.in_ok-scene.scene c.in_ok-scene.ensures)

pub returns : goal.returns
returns c =
    let task = c.args.task.now in
    let hall = c.args.hall in
    let rows = hall.history.now.rows in
    let calls = c.args.calls.now in
    let t = c.args.together.now in
    let shown = c.in_ok-shown.shown in
    let order = shown.order.items in
    let faulty = c.as_slice-faulty.result.now in
    let words = c.as_slice.result.now in
    let scene = c.in_ok-scene.scene in
    let picture = c.picture_of-picture.result in
    let made = c.picture_of-picture.ensures in
    let is_shown = subst (λ (ws : List ℕ). IsShownOf hall t order ws faulty) (sym c.as_slice.ensures.value)
    (subst (IsShownOf hall t order shown.why.text.items) (sym c.as_slice-faulty.ensures.value) c.in_ok-shown.ensures.shown) in
    let whole = subst (λ (o : List OpId). IsWholeScene task.drawn rows calls o faulty scene) c.as_slice-order.ensures.value c.in_ok-scene.ensures in
    let ids = made.ids ∙ c.as_str.ensures.value ∙ c.in_ok-ids.ensures in
    let is = picture_of_hall task.numbered.now task.drawn c.args.number t words picture hall calls order faulty scene made.keys made.hall made.calls made.scene
    made.faulty ids made.places made.before c.requires.hall c.requires.calls is_shown whole in
    on_ok_weaker c.append.result
    (section_added task.numbered.now task.drawn c.args.number t words picture is c.as_str-2.result.now faulty
    (c.as_str-2.ensures.value ∙ c.in_ok-targets.ensures) made.faulty _ _) (rw c.halls-halls.ensures.halls at c.append.ensures)
