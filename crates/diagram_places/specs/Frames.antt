-- Where what has four sides stands in a diagram: the parts of a bar, the times for which replicas
-- are down, the bands of refused steps, and the curtains.
use Rattle.std.specs.Prelude.{ℕ, ◌+◌, ◌<◌, ◌≤◌, Option, Some, None}
use Rattle.labels.specs.declared.places.Frame.{Frame}
use Rattle.message_scenes.specs.declared.calls.CallEnd.{CallEnd}
use Rattle.message_scenes.specs.declared.calls.CallEnd.TheVariants as ending
use Rattle.message_scenes.specs.declared.replicas.DownTime.{DownTime}
use Rattle.message_scenes.specs.declared.scene.MessageScene.{MessageScene}
use Rattle.diagram_places.specs.declared.sizes.TheConstants.{BAND_BOTTOM, BAND_TOP, BAR_LEFT}
use Rattle.diagram_places.specs.declared.sizes.TheConstants.{BAR_RIGHT, BOTTOM, CURTAIN_TOP}
use Rattle.diagram_places.specs.declared.sizes.TheConstants.{DOWN_LEFT, DOWN_RIGHT, MOMENT, RIGHT}
use Rattle.diagram_places.specs.declared.sizes.TheConstants.{ROW_TOP, STEP_LEFT}
use Rattle.diagram_places.specs.Layout.{client_x, down, replica_x, replicas_of, rows_of}

module _ (scene : MessageScene) where
  -- how wide a diagram is
  abbrev pub width_of : ℕ
  width_of = replica_x scene RIGHT (replicas_of scene)

  -- where a bar ends, down: in the row of its end, or below the last one
  abbrev pub bottom_of : CallEnd → ℕ
  bottom_of (ending.Answered row returned) = down MOMENT row
  bottom_of (ending.Stopped row) = down MOMENT row
  bottom_of ending.Open = down MOMENT (rows_of scene)

  -- a piece of a client's lifeline
  abbrev pub piece : ℕ → ℕ → ℕ → Frame
  piece client top bottom = record {
    left = client_x scene BAR_LEFT client;
    right = client_x scene BAR_RIGHT client;
    top = top;
    bottom = bottom;
  }

  -- where a down time that so ends ends, down: in that row, or below the last one
  abbrev pub up_at : Option ℕ → ℕ
  up_at (Some row) = down MOMENT row
  up_at None = down MOMENT (rows_of scene)

  -- where a time for which a replica is down stands: on its lifeline, from the row where it stops
  abbrev pub frame_of : DownTime → Frame
  frame_of time = record {
    left = replica_x scene DOWN_LEFT time.replica;
    right = replica_x scene DOWN_RIGHT time.replica;
    top = down MOMENT time.stops;
    bottom = up_at time.starts;
  }

  -- a band over all columns, in the row of that index
  abbrev pub band : ℕ → Frame
  band index = record {
    left = STEP_LEFT;
    right = width_of;
    top = down BAND_TOP index;
    bottom = down BAND_BOTTOM index;
  }

  -- what the curtain of a row hides: all below the row
  abbrev pub curtain_frame : ℕ → Frame
  curtain_frame row = record {
    left = 0;
    right = width_of;
    top = down CURTAIN_TOP row;
    bottom = down BOTTOM (rows_of scene);
  }

-- the curtain of a row hides no row up to it, and each row after it whole: a row stands between its
-- top and that of the next one
pub record HidesRowsAfter (scene : MessageScene) (row : ℕ) : Type 0 where
  pub shows : (other : ℕ) → other ≤ row
      → down ROW_TOP (other + 1) ≤ (curtain_frame scene row).top
  pub hides : (other : ℕ) → row < other
      → (curtain_frame scene row).top ≤ down ROW_TOP other
  pub whole : (other : ℕ) → other < rows_of scene
      → down ROW_TOP (other + 1) ≤ (curtain_frame scene row).bottom
