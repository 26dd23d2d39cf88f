-- The scene of a script's run: what a diagram of its messages shows.
use Rattle.std.specs.Prelude.{ℕ, ◌≡◌, ◌-◌, ◌↔◌, List, length, min, take, Contains}
use Rattle.std.specs.List.Sorted.{IsStrictlyIncreasing}
use Rattle.recorder.specs.Histories.{Recorded}
use Rattle.recorder.specs.Records.{IsPart}
use Rattle.recorder.specs.Sound.{TagSound}
use Rattle.recorder.specs.declared.part.Call.{Call}
use Rattle.world_steps.specs.Systems.{opening}
use Rattle.world_steps.specs.declared.system.System.{System}
use Rattle.script_runs.specs.declared.command.Script.{Script}
use Rattle.script_runs.specs.Quotas.{last_count}
use Rattle.message_scenes.specs.Shapes.{Shapes, no_shapes, with_rows}
use Rattle.message_scenes.specs.Tried.{Tried, TriesAll}
use Rattle.message_scenes.specs.declared.scene.MessageScene.{MessageScene}

-- the names in rising order, each once
pub record IsRisingOf (names rising : List ℕ) : Type 0 where
  pub rises : IsStrictlyIncreasing rising
  pub same : (name : ℕ) → Contains rising name ↔ Contains names name

-- the scene shows the shapes, with the clients in rising order
pub record Shows (shapes : Shapes) (scene : MessageScene) : Type 0 where
  pub rows : scene.rows.items ≡ shapes.rows
  pub clients : IsRisingOf shapes.joined scene.clients.items
  pub arrows : scene.arrows.items ≡ shapes.arrows
  pub calls : scene.calls.items ≡ shapes.calls
  pub hearings : scene.hearings.items ≡ shapes.hearings
  pub holdings : scene.holdings.items ≡ shapes.holdings
  pub downs : scene.downs.items ≡ shapes.downs

-- the scene is that of a run of the script which leaves that system: it has a row for each thing
-- that was tried, at most so many, and says how many it leaves out
pub record IsSceneOf (script : Script) (most : ℕ) (last : System) (scene : MessageScene) : Type 0
  where
    pub tried : List Tried
    pub tries : TriesAll (opening script.config) script.commands.items last tried
    pub quorums : scene.quorums ≡ script.config.quorums
    pub shows : Shows (with_rows no_shapes (take most tried)) scene
    pub omitted : scene.omitted ≡ min (length tried - most) last_count

-- the scene is that of a run of the script, and the history is what that run records; the tags of
-- each of its parts are sound
pub record IsRecordedScene (script : Script) (most : ℕ) (scene : MessageScene) (history : Recorded)
    : Type 0 where
  pub last : System
  pub scene_is : IsSceneOf script most last scene
  pub recorded : history ≡ last.history
  pub sound : (key : List ℕ) (part : List Call) → IsPart history.rows key part → TagSound part
