-- What a diagram of messages shows of a run: a row for each thing that was tried, and the shapes of
-- the steps that were taken.
use Rattle.std.specs.Prelude.{ℕ, List, [], ◌∷◌, ◌++◌, length, option_to_list}
use Rattle.world_steps.specs.declared.step.Step.{Step}
use Rattle.world_steps.specs.declared.step.Step.TheVariants as step
use Rattle.message_scenes.specs.Arrows.{arrows_after}
use Rattle.message_scenes.specs.Calls.{calls_after}
use Rattle.message_scenes.specs.Hearings.{hearing_of}
use Rattle.message_scenes.specs.Replicas.{holding_of, downs_after}
use Rattle.message_scenes.specs.Tried.{TakenStep, Tried, refused, took, unfinished}
use Rattle.message_scenes.specs.declared.arrows.Arrow.{Arrow}
use Rattle.message_scenes.specs.declared.calls.CallBar.{CallBar}
use Rattle.message_scenes.specs.declared.hearings.Hearing.{Hearing}
use Rattle.message_scenes.specs.declared.replicas.Holding.{Holding}
use Rattle.message_scenes.specs.declared.replicas.DownTime.{DownTime}
use Rattle.message_scenes.specs.declared.scene.Attempt.TheVariants as attempt
use Rattle.message_scenes.specs.declared.scene.StepRow.{StepRow}
use Rattle.script_runs.specs.declared.origin.CommandKind.TheVariants as kind
use Rattle.traces.specs.Sentences.{refused_sentence, taken_sentence, unfinished_sentence}

-- the rows, the clients that joined, and the shapes
pub record Shapes : Type 0 where
  pub rows : List StepRow
  pub joined : List ℕ
  pub arrows : List Arrow
  pub calls : List CallBar
  pub hearings : List Hearing
  pub holdings : List Holding
  pub downs : List DownTime

-- no step yet
abbrev pub no_shapes : Shapes
no_shapes = record {
  rows = [];
  joined = [];
  arrows = [];
  calls = [];
  hearings = [];
  holdings = [];
  downs = [];
}

-- the clients that joined, after a step
unfoldable pub joined_after : Step → List ℕ → List ℕ
joined_after (step.Join name) names = names ++ name ∷ []
joined_after other names = names

-- the row of what was tried: it says where that comes from, why it was refused, if it was, and what
-- a trace tells of it
abbrev pub row_of : Tried → StepRow
row_of (took t) = record {
  origin = t.origin;
  attempt = attempt.Taken t.step;
  told = taken_sentence t.before t.step;
}
row_of (refused origin step why) = record {
  origin = origin;
  attempt = attempt.Refused step why;
  told = refused_sentence step why;
}
row_of (unfinished line name why) = record {
  origin = record { line = line; kind = kind.Finish name };
  attempt = attempt.Unfinished name why;
  told = unfinished_sentence name why;
}

-- the next row is that of a step that was taken: each kind of shape after it
unfoldable pub with_step : Shapes → TakenStep → Shapes
with_step shapes t =
    let row = length shapes.rows in
    record {
      rows = shapes.rows ++ row_of (took t) ∷ [];
      joined = joined_after t.step shapes.joined;
      arrows = arrows_after row t shapes.arrows;
      calls = calls_after row t shapes.calls;
      hearings = shapes.hearings ++ option_to_list (hearing_of row t);
      holdings = shapes.holdings ++ option_to_list (holding_of row t.before t.step);
      downs = downs_after row t.step shapes.downs;
    }

-- the next row is that of what was tried; if it was refused, there is nothing more to show of it
abbrev pub with_row : Shapes → Tried → Shapes
with_row shapes (took t) = with_step shapes t
with_row shapes other = record shapes { rows = shapes.rows ++ row_of other ∷ [] }

-- the rows one after another
abbrev pub with_rows : Shapes → List Tried → Shapes
with_rows shapes [] = shapes
with_rows shapes (one ∷ tried) = with_rows (with_row shapes one) tried
