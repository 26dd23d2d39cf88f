-- The calls of a diagram of messages: each is a bar on its client's lifeline, from the row of its
-- invocation to the row of its response, or to the row where its client stopped.
use Rattle.std.specs.Prelude.{ℕ, ◌==◌, ◌&&◌, Bool, true, false, List, [], ◌∷◌, ◌++◌}
use Rattle.std.specs.Prelude.{Option, None, Some, length, slice_get}
use Rattle.tag.specs.Tags.{Tag}
use Rattle.tag.specs.declared.numbers.OpId.{OpId}
use Rattle.recorder.specs.declared.row.Row.{Row}
use Rattle.recorder.specs.declared.row.Row.TheVariants.{Invoke, Note, Respond}
use Rattle.world_steps.specs.declared.step.Step.{Step}
use Rattle.world_steps.specs.declared.step.Step.TheVariants as step
use Rattle.message_scenes.specs.Lists.{change_first}
use Rattle.message_scenes.specs.Tried.{TakenStep}
use Rattle.message_scenes.specs.declared.calls.CallBar.{CallBar}
use Rattle.message_scenes.specs.declared.calls.CallEnd.{CallEnd}
use Rattle.message_scenes.specs.declared.calls.CallEnd.TheVariants as ending

-- whether a call has no end yet
abbrev pub is_pending : CallEnd → Bool
is_pending ending.Open = true
is_pending other = false

-- whether the bar is that of the call
abbrev pub is_of_call : OpId → CallBar → Bool
is_of_call op bar = bar.call.0 == op.0

-- whether the bar is that of a pending call of the client
abbrev pub is_pending_of : ℕ → CallBar → Bool
is_pending_of name bar = bar.client == name && is_pending bar.end

-- the bar, noted: from that row on the call puts
abbrev pub noted : ℕ → Tag → CallBar → CallBar
noted row tag bar = record bar { note = Some (record { row = row; tag = tag }) }

-- the bar, ended
abbrev pub closed : CallEnd → CallBar → CallBar
closed there bar = record bar { end = there }

-- the bars after a row is added to the record
abbrev pub calls_with : ℕ → Option Row → List CallBar → List CallBar
calls_with row None bars = bars
calls_with row (Some (Invoke op name key action)) bars = bars ++ record {
  call = op;
  client = name;
  key = key;
  action = action;
  begins = row;
  note = None;
  end = ending.Open;
} ∷ []
calls_with row (Some (Note op tag)) bars = change_first (is_of_call op) (noted row tag) bars
calls_with row (Some (Respond op returned)) bars =
    change_first (is_of_call op) (closed (ending.Answered row returned)) bars

-- the bars after the step of a row: a client that stops ends the bar of its pending call
abbrev pub calls_by : ℕ → Step → Option Row → List CallBar → List CallBar
calls_by row (step.StopClient name) recorded bars =
    change_first (is_pending_of name) (closed (ending.Stopped row)) bars
calls_by row other recorded bars = calls_with row recorded bars

-- the bars after a step that was taken; a step adds at most one row to the record
unfoldable pub calls_after : ℕ → TakenStep → List CallBar → List CallBar
calls_after row t bars =
    calls_by row t.step (slice_get t.after.history.rows (length t.before.history.rows)) bars
