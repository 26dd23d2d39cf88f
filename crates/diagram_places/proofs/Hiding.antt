-- A curtain begins where its row ends.
use Rattle.std.proofs.Common.{ℕ, suc, ◌<◌, ◌≤◌, ◌+◌, ◌*◌, ◌≡◌, ap, arith}
use Rattle.std.proofs.Math.Nat.{mul-le-mul_right, suc-mul}
use Rattle.labels.specs.Places.{farthest}
use Rattle.labels.proofs.Standing.{one_step, stays_no_farther}
use Rattle.message_scenes.specs.declared.scene.MessageScene.{MessageScene}
use Rattle.diagram_places.specs.declared.sizes.TheConstants.{BOTTOM, CURTAIN_TOP, ROW, ROW_TOP}
use Rattle.diagram_places.specs.Frames.{HidesRowsAfter}
use Rattle.diagram_places.specs.Layout.{rows_of}

-- a row up to that of the curtain ends above it
shown : (row other : ℕ) → other ≤ row → ROW_TOP + (other + 1) * ROW ≤ CURTAIN_TOP + row * ROW
shown row other less =
    let rows : other * ROW ≤ row * ROW = mul-le-mul_right ROW less in
    let one : other + 1 ≡ suc other = omega arith in
    let more : (other + 1) * ROW ≡ suc other * ROW = ap (λ (n : ℕ). n * ROW) one in
    omega (arith, rows, more, suc-mul other ROW)

-- a row after it begins below
hidden : (row other : ℕ) → row < other → CURTAIN_TOP + row * ROW ≤ ROW_TOP + other * ROW
hidden row other less =
    let rows = one_step row other ROW less in
    omega (arith, rows)

-- and all rows end above the end of the diagram
ended : (rows other : ℕ) → other < rows → ROW_TOP + (other + 1) * ROW ≤ BOTTOM + rows * ROW
ended rows other less =
    let all : (other + 1) * ROW ≤ rows * ROW = mul-le-mul_right ROW (omega (arith, less)) in
    omega (arith, all)

pub hides : (scene : MessageScene) (row : ℕ) → HidesRowsAfter scene row
hides scene row = record {
  shows = λ other less. stays_no_farther (ROW_TOP + (other + 1) * ROW) (CURTAIN_TOP + row * ROW) farthest (shown row other less);
  hides = λ other less. stays_no_farther (CURTAIN_TOP + row * ROW) (ROW_TOP + other * ROW) farthest (hidden row other less);
  whole = λ other less. stays_no_farther (ROW_TOP + (other + 1) * ROW) (BOTTOM + rows_of scene * ROW) farthest (ended (rows_of scene) other less);
}
