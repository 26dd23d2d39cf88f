-- A sketch of a run is the script's scene.
use Rattle.std.proofs.Common.{ℕ, ◌≡◌, List, [], flat_map, refl, ap, ◌∙◌, subst}
use Rattle.std.specs.Prelude.{take}
use Rattle.script_runs.proofs.Observing.{all_added}
use Rattle.message_scenes.specs.Scenes.{IsRisingOf, Shows}
use Rattle.message_scenes.specs.Shapes.{Shapes, no_shapes, with_rows}
use Rattle.message_scenes.specs.Sketches.{IsSceneFrom, IsSketched, frame_of, shapes_of}
use Rattle.message_scenes.specs.Tried.{Tried, tried_in}
use Rattle.message_scenes.specs.declared.scene.MessageScene.{MessageScene}
use Rattle.message_scenes.specs.declared.sketch.Sketch.{Sketch}

-- a scene with its clients in rising order, and how many steps it leaves out
shows : (shapes : Shapes) (old new : MessageScene) (count : ℕ) → shapes_of old ≡ shapes
    → new ≡ record old { clients = new.clients; omitted = count } → IsRisingOf old.clients.items new.clients.items → Shows shapes new
shows shapes old new count is others risen = record {
  rows = ap (λ (s : MessageScene). s.rows.items) others ∙ ap (λ (s : Shapes). s.rows) is;
  clients = subst (λ (names : List ℕ). IsRisingOf names new.clients.items) (ap (λ (s : Shapes). s.joined) is) risen;
  arrows = ap (λ (s : MessageScene). s.arrows.items) others ∙ ap (λ (s : Shapes). s.arrows) is;
  calls = ap (λ (s : MessageScene). s.calls.items) others ∙ ap (λ (s : Shapes). s.calls) is;
  hearings = ap (λ (s : MessageScene). s.hearings.items) others ∙ ap (λ (s : Shapes). s.hearings) is;
  holdings = ap (λ (s : MessageScene). s.holdings.items) others ∙ ap (λ (s : Shapes). s.holdings) is;
  downs = ap (λ (s : MessageScene). s.downs.items) others ∙ ap (λ (s : Shapes). s.downs) is;
}

pub scene_from : (sketch : Sketch) (scene : MessageScene) → scene ≡ record sketch.scene { clients = scene.clients; omitted = sketch.quota.omitted }
    → IsRisingOf sketch.scene.clients.items scene.clients.items → IsSceneFrom sketch scene
scene_from sketch scene others risen = λ script most last first none run.
    let tried : List Tried = flat_map tried_in run.events in
    let all : IsSketched (frame_of script most) tried sketch =
    all_added IsSketched tried_in first sketch run.events run.observes (frame_of script most) [] none in
    record {
      tried = tried;
      tries = record { events = run.events; happen = run.happen; are = refl };
      quorums = ap (λ (s : MessageScene). s.quorums) others ∙ all.shows.same;
      shows = shows (with_rows no_shapes (take most tried)) sketch.scene scene sketch.quota.omitted all.shows.shapes others risen;
      omitted = ap (λ (s : MessageScene). s.omitted) others ∙ all.counted.omitted;
    }
