-- A scene under way: of what was tried the first rows are drawn, and those after them are counted.
use Rattle.std.specs.Prelude.{ℕ, ◌≡◌, List, [], ◌∷◌, ◌++◌, length, Option, Some, None}
use Rattle.quorum.specs.Quorums.{Quorums}
use Rattle.world_steps.specs.declared.step.Step.{Step}
use Rattle.world_steps.specs.declared.system.System.{System}
use Rattle.script_runs.specs.declared.command.Script.{Script}
use Rattle.script_runs.specs.Events.{Event}
use Rattle.script_runs.specs.Observing.{Adds, ObservesRun}
use Rattle.script_runs.specs.Quotas.{GoesOn, HasRoom, IsFull, ShowsFirst}
use Rattle.script_runs.specs.declared.origin.Origin.{Origin}
use Rattle.traces.specs.Sentences.{begun_of}
use Rattle.message_scenes.specs.Hearings.{receiver_of}
use Rattle.message_scenes.specs.Replicas.{holding_of}
use Rattle.message_scenes.specs.Scenes.{IsSceneOf}
use Rattle.message_scenes.specs.Shapes.{Shapes, no_shapes, with_rows}
use Rattle.message_scenes.specs.Tried.{Tried, tried_in}
use Rattle.message_scenes.specs.declared.scene.ComingStep.{ComingStep}
use Rattle.message_scenes.specs.declared.scene.MessageScene.{MessageScene}
use Rattle.message_scenes.specs.declared.sketch.Sketch.{Sketch}

-- the shapes of a scene
abbrev pub shapes_of : MessageScene → Shapes
shapes_of scene = record {
  rows = scene.rows.items;
  joined = scene.clients.items;
  arrows = scene.arrows.items;
  calls = scene.calls.items;
  hearings = scene.hearings.items;
  holdings = scene.holdings.items;
  downs = scene.downs.items;
}

-- the scene has those quorums, and the rows and shapes of what was tried
pub record IsDrawing (quorums : Quorums) (scene : MessageScene) (tried : List Tried) : Type 0 where
  pub same : scene.quorums ≡ quorums
  pub shapes : shapes_of scene ≡ with_rows no_shapes tried

-- the quorums of the run, and how many rows are drawn at most
pub record Frame : Type 0 where
  pub quorums : Quorums
  pub most : ℕ

-- the frame of a script's scene with at most so many rows
abbrev pub frame_of : Script → ℕ → Frame
frame_of script most = record { quorums = script.config.quorums; most = most }

-- of what was tried the first rows are drawn in the frame, and those after them are counted
abbrev pub IsSketched : Frame → List Tried → Sketch → Type 0
IsSketched frame tried sketch =
    ShowsFirst (IsDrawing frame.quorums sketch.scene) frame.most tried sketch.quota

-- what the first sketch is of what was tried, the second is of that and one more
abbrev pub Draws : Sketch → Tried → Sketch → Type 0
Draws old one new = (frame : Frame) (tried : List Tried) → IsSketched frame tried old
    → IsSketched frame (tried ++ one ∷ []) new

-- the sketch goes on by what is tried
abbrev pub DrawsOn : Sketch → Event → Sketch → Type 0
DrawsOn = Adds IsSketched tried_in

-- ---- a step that is about to be taken

-- it is the next row, as the system stands
pub record IsComing (row : ℕ) (s : System) (coming : ComingStep) : Type 0 where
  pub told : coming.told ≡ begun_of s coming.step
  pub receiver : coming.receiver ≡ receiver_of s coming.step
  pub holding : coming.holding ≡ holding_of row s coming.step
  pub sent : coming.sent ≡ s.pool.sent
  pub recorded : coming.recorded ≡ length s.history.rows

-- it isn't drawn
pub record LeavesOut (old new : Sketch) : Type 0 where
  pub full : IsFull old.quota
  pub on : GoesOn old.quota new.quota
  pub same : new.scene ≡ old.scene

-- it is drawn once it is taken
pub record WillDraw (old : Sketch) (origin : Origin) (s : System) (step : Step) (new : Sketch)
    (coming : ComingStep) : Type 0 where
  pub room : HasRoom old.quota
  pub on : GoesOn old.quota new.quota
  pub same : new.scene ≡ old.scene
  pub origin_is : coming.origin ≡ origin
  pub step_is : coming.step ≡ step
  pub is : IsComing (length old.scene.rows.items) s coming

-- what is noted of it
abbrev pub NotesStep : Sketch → Origin → System → Step → Sketch → Option ComingStep → Type 0
NotesStep old origin s step new None = LeavesOut old new
NotesStep old origin s step new (Some coming) = WillDraw old origin s step new coming

-- ---- the whole run

-- if the sketch saw all that happens in a run of a script, the scene is that of the run
abbrev pub IsSceneFrom : Sketch → MessageScene → Type 0
IsSceneFrom sketch scene = (script : Script) (most : ℕ) (last : System) (first : Sketch)
    → IsSketched (frame_of script most) [] first → ObservesRun DrawsOn script last first sketch
    → IsSceneOf script most last scene
