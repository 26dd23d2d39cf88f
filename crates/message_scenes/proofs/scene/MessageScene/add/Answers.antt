use Rattle.std.proofs.Common.{ℕ, ◌≡◌, [], ◌∷◌, ◌++◌, length, Some, sym, ap, ◌∙◌, arith}
use Rattle.std.specs.Prelude.{option_to_list}
use Rattle.std.specs.List.{slice_get}
use Rattle.network.specs.Flights.{message_of}
use Rattle.world_steps.specs.declared.system.System.{System}
use Rattle.message_scenes.specs.Arrows.{arrows_by}
use Rattle.message_scenes.specs.Calls.{calls_by}
use Rattle.message_scenes.specs.Hearings.{heard_with}
use Rattle.message_scenes.specs.Replicas.{holding_of}
use Rattle.message_scenes.specs.Tried.{TakenStep, taken_step}
use Rattle.message_scenes.specs.declared.scene.Attempt.TheVariants as attempt
use Rattle.message_scenes.specs.declared.scene.MessageScene.{MessageScene}
use Rattle.message_scenes.proofs.More.{shapes_more, told_ended}
use Rattle.message_scenes.proofs.scene.MessageScene.add.Goals as goal

pub returns-clause-shapes : goal.returns-clause-shapes
returns-clause-shapes c = λ s is caused moved.
    let h = c.in_ok-add_shapes.ensures in
    let old = c.args.self.now in
    let coming = c.args.coming in
    let row = c.len-row.result in
    let row_is : row ≡ length old.rows.items = omega (arith, c.len-row.ensures, old.rows.ok.0) in
    let new : MessageScene = record c.add_shapes.new.self { hearings = c.add_hearing.new.hearings; holdings = c.add_holding.new.holdings; rows = c.push.new.self } in
    let t : TakenStep = taken_step coming.origin s coming.step in
    let told_is = c.in_ok-told.ensures ∙ told_ended s coming.step coming.told c.args.effect.now is.told caused in
    shapes_more old new t row coming.sent coming.recorded coming.receiver c.args.effect.now row_is is.sent is.recorded is.receiver caused
    (c.in_ok-push.ensures.items ∙ (λ i. (h.others i).rows.items ++ record { origin = coming.origin; attempt = attempt.Taken coming.step; told = told_is i } ∷ []))
    h.joined
    (h.arrows ∙ ap (λ (x : System). arrows_by row coming.step (Some c.args.effect.now) coming.sent (message_of x.pool.flights coming.sent) old.arrows.items) moved)
    (h.calls ∙ ap (λ (x : System). calls_by row coming.step (slice_get x.history.rows coming.recorded) old.calls.items) moved)
    (c.in_ok-add_hearing.ensures ∙ (λ i. (h.others i).hearings.items ++ option_to_list (c.heard_with-hearing.ensures i))
    ∙ ap (λ (x : System). old.hearings.items ++ option_to_list (heard_with row coming.receiver (Some c.args.effect.now) x)) moved)
    (c.in_ok-add_holding.ensures ∙ (λ i. (h.others i).holdings.items ++ option_to_list (is.holding i))
    ∙ ap (λ (n : ℕ). old.holdings.items ++ option_to_list (holding_of n s coming.step)) (sym row_is))
    h.downs
