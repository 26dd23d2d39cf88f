use Rattle.std.proofs.Common.{◌≡◌, Some, sym, ◌∙◌, ap, slice_get}
use Rattle.std.proofs.lemmas.Option.{slice_get-get_or}
use Rattle.world_steps.proofs.Justified.{tags_justify}
use Rattle.world_steps.proofs.Onward.{run_step}
use Rattle.world_steps.proofs.running.run.Goals as goal

pub loop-step-preserved : goal.loop-step-preserved
loop-step-preserved c =
    let l = c.loop-step in
    let steps = c.args.steps.now in
    let step = c.step-item.result in
    let at : slice_get steps l.step-index ≡ Some step = slice_get-get_or steps l.step-index step c.loop-step-test.true ∙ ap Some (sym c.step-item.is) in
    (run_step c.args.config steps l.step-index step l.world c.advance.new.world at l.invariant.0 c.in_ok-advance.ensures.next, c.in_ok-advance.ensures.sound)

pub returns-clause-sound : goal.returns-clause-sound
returns-clause-sound c = λ key part is. tags_justify c.loop-step.world.history.rows c.loop-step.invariant.1.sound.recorded key part is
