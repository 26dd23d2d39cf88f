-- The rows of a diagram, as strips show them on paper.
use Rattle.std.specs.Prelude.{ℕ, Option, Some, None}
use Rattle.labels.specs.declared.strips.CutRows.{CutRows}
use Rattle.message_scenes.specs.declared.arrows.ArrowEnd.{ArrowEnd}
use Rattle.message_scenes.specs.declared.arrows.ArrowEnd.TheVariants as arrow_end
use Rattle.message_scenes.specs.declared.calls.CallEnd.{CallEnd}
use Rattle.message_scenes.specs.declared.calls.CallEnd.TheVariants as call_end
use Rattle.message_scenes.specs.declared.scene.MessageScene.{MessageScene}
use Rattle.diagram_places.specs.declared.sizes.TheConstants.{ROW, ROW_TOP}
use Rattle.diagram_places.specs.Layout.{rows_of}

-- the rows of a diagram
abbrev pub cut_rows : MessageScene → CutRows
cut_rows scene = record { start = ROW_TOP; height = ROW; count = rows_of scene }

-- the last row of an arrow
abbrev pub last_row_of_arrow : ℕ → ArrowEnd → ℕ
last_row_of_arrow begins (arrow_end.Arrives row) = row
last_row_of_arrow begins (arrow_end.Stale row) = row
last_row_of_arrow begins (arrow_end.Lost row) = row
last_row_of_arrow begins arrow_end.Open = begins

-- the last row of a call, if it ends
abbrev pub last_row_of_call : CallEnd → Option ℕ
last_row_of_call (call_end.Answered row returned) = Some row
last_row_of_call (call_end.Stopped row) = Some row
last_row_of_call call_end.Open = None
