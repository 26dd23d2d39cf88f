-- The shapes of a scene after one row more.
use Rattle.std.proofs.Common.{ℕ, ◌≡◌, List, [], ◌∷◌, ◌++◌, length, Option, None, Some, get_or, sym, ap, ◌∙◌}
use Rattle.std.specs.Prelude.{option_to_list}
use Rattle.network.specs.Flights.{message_of}
use Rattle.std.specs.List.{find, position, slice_get}
use Rattle.message_scenes.specs.Arrows.{arrows_after, arrows_by, copy_arrow, is_under_way}
use Rattle.message_scenes.specs.Calls.{calls_after, calls_by}
use Rattle.world_steps.specs.Systems.{effect_of}
use Rattle.world_steps.specs.declared.effect.Effect.{Effect}
use Rattle.world_steps.specs.declared.step.Step.{Step}
use Rattle.world_steps.specs.declared.system.System.{System}
use Rattle.traces.specs.StepLines.{told}
use Rattle.traces.specs.Sentences.{Begun, begun_of, ended_by, taken_sentence}
use Rattle.message_scenes.specs.Hearings.{hearing_of, heard_with, receiver_of}
use Rattle.message_scenes.specs.Replicas.{holding_of, downs_after}
use Rattle.message_scenes.specs.Shapes.{joined_after, row_of, with_row, with_step}
use Rattle.message_scenes.specs.Sketches.{shapes_of}
use Rattle.message_scenes.specs.Tried.{TakenStep, took}
use Rattle.message_scenes.specs.declared.arrows.Arrow.{Arrow}
use Rattle.message_scenes.specs.declared.scene.MessageScene.{MessageScene}
use Rattle.message_scenes.proofs.Changed.{find_here, find_none}

pub shapes_more : (old new : MessageScene) (t : TakenStep) (row sent recorded : ℕ) (receiver : Option ℕ) (caused : Effect)
    → row ≡ length old.rows.items → sent ≡ t.before.pool.sent → recorded ≡ length t.before.history.rows
    → receiver ≡ receiver_of t.before t.step → effect_of t.before t.step ≡ Some caused
    → new.rows.items ≡ old.rows.items ++ row_of (took t) ∷ [] → new.clients.items ≡ joined_after t.step old.clients.items
    → new.arrows.items ≡ arrows_by row t.step (Some caused) sent (message_of t.after.pool.flights sent) old.arrows.items
    → new.calls.items ≡ calls_by row t.step (slice_get t.after.history.rows recorded) old.calls.items
    → new.hearings.items ≡ old.hearings.items ++ option_to_list (heard_with row receiver (Some caused) t.after)
    → new.holdings.items ≡ old.holdings.items ++ option_to_list (holding_of row t.before t.step)
    → new.downs.items ≡ downs_after row t.step old.downs.items → shapes_of new ≡ with_row (shapes_of old) (took t)
unfolding with_step arrows_after calls_after hearing_of
shapes_more old new t row sent recorded receiver caused is_row is_sent is_recorded is_receiver is_done rows joined arrows calls hearings holdings downs = λ i. record {
  rows = rows i;
  joined = joined i;
  arrows = (arrows ∙ (λ j. arrows_by (is_row j) t.step (sym is_done j) (is_sent j) (message_of t.after.pool.flights (is_sent j)) old.arrows.items)) i;
  calls = (calls ∙ (λ j. calls_by (is_row j) t.step (slice_get t.after.history.rows (is_recorded j)) old.calls.items)) i;
  hearings = (hearings ∙ (λ j. old.hearings.items ++ option_to_list (heard_with (is_row j) (is_receiver j) (sym is_done j) t.after))) i;
  holdings = (holdings ∙ (λ j. old.holdings.items ++ option_to_list (holding_of (is_row j) t.before t.step))) i;
  downs = (downs ∙ (λ j. downs_after (is_row j) t.step old.downs.items)) i;
}

-- what is told of a step that is taken, once its effect is there
pub told_ended : (s : System) (step : Step) (begun : Begun) (caused : Effect) → begun ≡ begun_of s step → effect_of s step ≡ Some caused
    → ended_by begun caused ≡ taken_sentence s step
unfolding told
told_ended s step begun caused is does = (λ i. ended_by (is i) caused) ∙ (λ i. told s step None (sym does i))

-- a further arrow, like the first one of the flight under way
pub copied_found : (f row : ℕ) (arrows : List Arrow) (k : ℕ) (d new : Arrow) → position (is_under_way f) arrows ≡ Some k
    → d ≡ get_or arrows k d → new ≡ record d { begins = row } → new ∷ [] ≡ copy_arrow row (find (is_under_way f) arrows)
copied_found f row arrows k d new is item like =
    ap (λ (a : Arrow). a ∷ []) (like ∙ ap (λ (a : Arrow). record a { begins = row }) item)
    ∙ ap (copy_arrow row) (sym (find_here (is_under_way f) arrows k d is))

pub copied_none : (f row : ℕ) (arrows : List Arrow) → position (is_under_way f) arrows ≡ None → [] ≡ copy_arrow row (find (is_under_way f) arrows)
copied_none f row arrows is = ap (copy_arrow row) (sym (find_none (is_under_way f) arrows is))
