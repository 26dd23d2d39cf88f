-- Rows, drawn one after another.
use Rattle.std.proofs.Common.{ℕ, ◌≡◌, List, [], ◌∷◌, ◌++◌, length, Option, None, Some, refl, sym, ap, ◌∙◌, subst}
use Rattle.world_steps.specs.Refusals.{refusal_of}
use Rattle.world_steps.specs.Systems.{effect_of, system_after}
use Rattle.world_steps.specs.declared.effect.Effect.{Effect}
use Rattle.world_steps.specs.declared.refusal.Refusal.{Refusal}
use Rattle.world_steps.specs.declared.step.Step.{Step}
use Rattle.world_steps.specs.declared.system.System.{System}
use Rattle.script_runs.specs.declared.origin.Origin.{Origin}
use Rattle.script_runs.specs.Events.{notices, tries}
use Rattle.script_runs.specs.declared.notice.Notice.{Notice}
use Rattle.script_runs.specs.declared.notice.Notice.TheVariants as notice
use Rattle.world_settle.specs.declared.errors.SettleError.{SettleError}
use Rattle.script_runs.specs.Quotas.{GoesOn, HasRoom, IsFull}
use Rattle.script_runs.specs.declared.quota.Quota.{Quota}
use Rattle.script_runs.proofs.Quotas.{one_omitted, one_shown}
use Rattle.message_scenes.specs.Shapes.{Shapes, no_shapes, with_row, with_rows}
use Rattle.message_scenes.specs.Sketches.{Draws, DrawsOn, IsComing, IsDrawing, IsSketched, LeavesOut, WillDraw, shapes_of}
use Rattle.message_scenes.specs.Tried.{Tried, refused, taken_step, took, tried_of, tried_unless, unfinished}
use Rattle.message_scenes.specs.declared.scene.ComingStep.{ComingStep}
use Rattle.message_scenes.specs.declared.scene.MessageScene.{MessageScene}
use Rattle.message_scenes.specs.declared.sketch.Sketch.{Sketch}

-- the shapes of some rows, and of one more
rows_on : (shapes : Shapes) (tried : List Tried) (one : Tried) → with_row (with_rows shapes tried) one ≡ with_rows shapes (tried ++ one ∷ [])
rows_on shapes [] one = refl
rows_on shapes (first ∷ tried) one = rows_on (with_row shapes first) tried one

module _ (old new : Sketch) (one : Tried) (on : GoesOn old.quota new.quota) where
  -- a row that is drawn
  pub row_drawn : HasRoom old.quota → shapes_of new.scene ≡ with_row (shapes_of old.scene) one
      → new.scene.quorums ≡ old.scene.quorums → Draws old one new
  row_drawn room more quorums = λ frame tried sketched.
      one_shown (IsDrawing frame.quorums old.scene) (IsDrawing frame.quorums new.scene) old.quota new.quota one on frame.most tried sketched room
      (λ shown is. record {
        same = quorums ∙ is.same;
        shapes = more ∙ ap (λ (s : Shapes). with_row s one) is.shapes ∙ rows_on no_shapes shown one;
      })

  -- one that is counted
  pub row_omitted : IsFull old.quota → new.scene ≡ old.scene → Draws old one new
  row_omitted full same = λ frame tried sketched.
      one_omitted (IsDrawing frame.quorums old.scene) (IsDrawing frame.quorums new.scene) old.quota new.quota one on frame.most tried sketched full
      (λ shown is. subst (λ (scene : MessageScene). IsDrawing frame.quorums scene shown) (sym same) is)

-- a step that is tried, by why it is refused
step_seen : (old new : Sketch) (origin : Origin) (s : System) (step : Step) (found : Option Refusal) → refusal_of s step ≡ found
    → Draws old (tried_unless origin s step found) new → DrawsOn old (tries origin s step) new
unfolding tried_of
step_seen old new origin s step found is draws = λ frame tried sketched.
    subst (λ (o : Option Refusal). IsSketched frame (tried ++ tried_unless origin s step o ∷ []) new) (sym is) (draws frame tried sketched)

-- a step that is refused has its row
pub refused_added : (old new : Sketch) (origin : Origin) (s : System) (step : Step) (why : Refusal) → GoesOn old.quota new.quota → HasRoom old.quota
    → shapes_of new.scene ≡ with_row (shapes_of old.scene) (refused origin step why) → new.scene.quorums ≡ old.scene.quorums
    → refusal_of s step ≡ Some why → DrawsOn old (tries origin s step) new
refused_added old new origin s step why on room shapes quorums is =
    step_seen old new origin s step (Some why) is (row_drawn old new (refused origin step why) on room shapes quorums)

pub step_left_out : (old new : Sketch) (origin : Origin) (s : System) (step : Step) → LeavesOut old new → refusal_of s step ≡ None
    → DrawsOn old (tries origin s step) new
step_left_out old new origin s step left none =
    step_seen old new origin s step None none (row_omitted old new (took (taken_step origin s step)) left.on left.full left.same)

pub step_added : (old mid new : Sketch) (origin : Origin) (s after : System) (step : Step) (coming : ComingStep) → WillDraw old origin s step mid coming
    → (caused : Option Effect) → effect_of s step ≡ caused → (IsComing (length mid.scene.rows.items) s coming → effect_of s coming.step ≡ caused
    → after ≡ system_after s coming.step
    → shapes_of new.scene ≡ with_row (shapes_of mid.scene) (took (taken_step coming.origin s coming.step)))
    → new.scene.quorums ≡ mid.scene.quorums → new.quota ≡ mid.quota → refusal_of s step ≡ None → after ≡ system_after s step
    → DrawsOn old (tries origin s step) new
step_added old mid new origin s after step coming will caused effect_is adds quorums quota none moved =
    let is : IsComing (length mid.scene.rows.items) s coming =
    subst (λ (scene : MessageScene). IsComing (length scene.rows.items) s coming) (sym will.same) will.is in
    let shapes : shapes_of new.scene ≡ with_row (shapes_of old.scene) (took (taken_step origin s step)) =
    adds is (ap (effect_of s) will.step_is ∙ effect_is) (moved ∙ ap (system_after s) (sym will.step_is))
    ∙ (λ i. with_row (shapes_of (will.same i)) (took (taken_step (will.origin_is i) s (will.step_is i)))) in
    step_seen old new origin s step None none (row_drawn old new (took (taken_step origin s step))
    (subst (λ (q : Quota). GoesOn old.quota q) (sym quota) will.on) will.room shapes (quorums ∙ ap (λ (m : MessageScene). m.quorums) will.same))

-- a call that can't be finished has its row
pub unfinished_added : (old new : Sketch) (line name : ℕ) (why : SettleError) (said : Notice) → said ≡ notice.Unfinished name why
    → GoesOn old.quota new.quota → HasRoom old.quota → shapes_of new.scene ≡ with_row (shapes_of old.scene) (unfinished line name why)
    → new.scene.quorums ≡ old.scene.quorums → DrawsOn old (notices line said) new
unfinished_added old new line name why said is on room shapes quorums =
    subst (λ (n : Notice). DrawsOn old (notices line n) new) (sym is) (row_drawn old new (unfinished line name why) on room shapes quorums)
