-- Dots stand on their bars, bars in their columns and texts in their bars.
use Rattle.std.proofs.Common.{ℕ, ◌≡◌, ◌<◌, ◌≤◌, ◌+◌, ◌-◌, ◌*◌, ◌/◌, ◌∙◌, min, max, length, Option, Some, None, inl, inr, ap, refl, sym, arith}
use Rattle.std.specs.List.{slice_get, Contains}
use Rattle.std.proofs.Math.Nat.{le-max_right}
use Rattle.labels.specs.Places.{farthest}
use Rattle.labels.proofs.Standing.{near_is, nearer, one_step, stays_before}
use Rattle.scenes.specs.declared.scene.Bar.{Bar}
use Rattle.scenes.specs.declared.scene.Dot.{Dot}
use Rattle.scenes.specs.declared.scene.Scene.{Scene}
use Rattle.scenes.specs.Columns.{EndsBefore}
use Rattle.scenes.specs.Scenes.{IsPlaceIn}
use Rattle.tag.proofs.Lists.{place_of}
use Rattle.pictures.specs.declared.sizes.TheConstants.{BAR_FOOT, BAR_LEFT, BAR_MARGINS, BAR_TOP, COLUMNS, DOT_LEFT, DOT_RADIUS, FLOOR}
use Rattle.pictures.specs.declared.sizes.TheConstants.{MIDDLE, NARROWEST, OPEN_FOOT, ROW, TEXT_LEFT, WIDEST}
use Rattle.pictures.specs.Dots.{dot_x, dot_y, lane_or_first}
use Rattle.pictures.specs.Frames.{bottom_of, frame_of}
use Rattle.pictures.specs.Layout.{IsInOrder, across, column_of, column_width, down, row_of_dot, row_of_place, rows_of, rows_up_to}
use Rattle.pictures.specs.Readable.{HasCircle, HasTexts, HasTick, IsWithinReach}
use Rattle.pictures.proofs.Rows.{dot_above_place, dot_not_above, dot_up_to, dot_within_rows, rows_above, tick_above}
use Rattle.std.proofs.lemmas.Bool.{cases_lt}
use Rattle.std.proofs.lemmas.Option.{same_Some}
use Rattle.tag.proofs.Options.{none_some}

-- a column is at least so wide
pub wide : (scene : Scene) → NARROWEST ≤ column_width scene
wide scene = le-max_right (min (COLUMNS / max (length scene.columns.items) 1) WIDEST) NARROWEST

pub rows_down : (start i j : ℕ) → i < j → down start j < farthest → down start i < down start j
rows_down start i j less near =
    let step = one_step i j ROW less in
    stays_before (start + i * ROW) (start + j * ROW) farthest (omega (arith, step)) near

pub columns_right : (scene : Scene) (start i j : ℕ) → i < j → across scene start j < farthest → across scene start i < across scene start j
columns_right scene start i j less near =
    let w = column_width scene in
    let step = one_step i j w less in
    stays_before (start + i * w) (start + j * w) farthest (omega (arith, step, wide scene)) near

pub bars_right : (scene : Scene) (bar next : Bar) → column_of scene bar.lane < column_of scene next.lane → (frame_of scene next).left < farthest
    → (frame_of scene bar).right < (frame_of scene next).left
bars_right scene bar next less near =
    let w = column_width scene in
    let own = column_of scene bar.lane in
    let other = column_of scene next.lane in
    let step = one_step own other w less in
    stays_before (BAR_LEFT + (w - BAR_MARGINS) + own * w) (BAR_LEFT + other * w) farthest (omega (arith, step, wide scene)) near

steps : (i j : ℕ) → i ≤ j → i * ROW ≤ j * ROW
steps i j le = elim (cases_lt i j) [
  | inl less ↦ (let step = one_step i j ROW less in omega (arith, step))
  | inr h ↦
      let same : i ≡ j = omega (arith, le, h) in
      let equal : i * ROW ≡ j * ROW = ap (λ (n : ℕ). n * ROW) same in
      omega (arith, equal)
]

-- what ends before a place has its bottom above a bar that begins there
module _ (scene : Scene) (next : ℕ) (ordered : IsInOrder scene) (near : down BAR_TOP (row_of_place scene next) < farthest) where
  answer_above : (place end : ℕ) → place ≡ end → Contains scene.ticks.items place → end < next
      → down BAR_FOOT (row_of_place scene place) < down BAR_TOP (row_of_place scene next)
  answer_above place end same tick less =
      let i = place_of scene.ticks.items place tick in
      let row = row_of_place scene place in
      let row_next = row_of_place scene next in
      let above : row < row_next = tick_above scene ordered i.0 place next i.1 (omega (arith, same, less)) in
      let step = one_step row row_next ROW above in
      stays_before (BAR_FOOT + row * ROW) (BAR_TOP + row_next * ROW) farthest (omega (arith, step)) near

  bottom_above : (answered ends : Option ℕ) (end : ℕ)
      → ((place : ℕ) → answered ≡ Some place → Contains scene.ticks.items place × (ends ≡ Some place))
      → ends ≡ Some end → end < next → bottom_of scene answered ends < down BAR_TOP (row_of_place scene next)
  bottom_above (Some place) ends end tick is less =
      let t = tick place refl in
      answer_above place end (same_Some place end (sym t.1 ∙ is)) t.0 less
  bottom_above None None end tick is less = none_some is
  bottom_above None (Some last) end tick is less =
      let same = same_Some last end is in
      let rows = rows_up_to scene last in
      let row_next = row_of_place scene next in
      let above : rows ≤ row_next = rows_above scene ordered last next (omega (arith, same, less)) in
      let step = steps rows row_next above in
      stays_before (OPEN_FOOT + rows * ROW) (BAR_TOP + row_next * ROW) farthest (omega (arith, step)) near

-- a bar that ends before another one begins stands above it
pub bars_below : (scene : Scene) (bar next : Bar) → IsInOrder scene → HasTick scene bar → EndsBefore bar next
    → (frame_of scene next).top < farthest → (frame_of scene bar).bottom < (frame_of scene next).top
bars_below scene bar next ordered ticks before near =
    bottom_above scene next.begins ordered near bar.answered bar.ends before.0 ticks before.1 before.2

-- where the sides of a bar stand that ends before the farthest place, and what stands between them
module _ (scene : Scene) (column : ℕ) (near : across scene (BAR_LEFT + (column_width scene - BAR_MARGINS)) column < farthest) where
  abbrev right_end : ℕ
  right_end = BAR_LEFT + (column_width scene - BAR_MARGINS) + column * column_width scene

  right_is : across scene (BAR_LEFT + (column_width scene - BAR_MARGINS)) column ≡ right_end
  right_is = nearer right_end farthest near

  inside_is : (start : ℕ) → start + column * column_width scene ≤ right_end → across scene start column ≡ start + column * column_width scene
  inside_is start le = near_is (start + column * column_width scene) farthest (omega (arith, le, near, right_is))

pub texts_inside : (scene : Scene) (bar : Bar) → IsWithinReach (frame_of scene bar) → HasTexts scene bar
texts_inside scene bar reach =
    let w = column_width scene in
    let column = column_of scene bar.lane in
    let right = right_is scene column reach.right in
    let left = inside_is scene column reach.right BAR_LEFT (omega (arith, wide scene)) in
    let text = inside_is scene column reach.right TEXT_LEFT (omega (arith, wide scene)) in
    record { left = omega (arith, left, text); right = omega (arith, right, text, wide scene) }

module _ (scene : Scene) (ordered : IsInOrder scene) (index : ℕ) (d : Dot) (at : slice_get scene.dots.items index ≡ Some d) where
  -- a dot stands above the bottom of its bar
  above_bottom : (answered ends : Option ℕ) → ((answer : ℕ) → answered ≡ Some answer → d.place < answer)
      → ((end : ℕ) → ends ≡ Some end → d.place ≤ end) → bottom_of scene answered ends < farthest
      → MIDDLE + row_of_dot scene index d.place * ROW + DOT_RADIUS < bottom_of scene answered ends
  above_bottom None None before lasting near =
      let bottom = nearer (FLOOR + rows_of scene * ROW) farthest near in
      let within = one_step (row_of_dot scene index d.place) (rows_of scene) ROW (dot_within_rows scene ordered index d at) in
      omega (arith, bottom, within)
  above_bottom None (Some end) before lasting near =
      let bottom = nearer (OPEN_FOOT + rows_up_to scene end * ROW) farthest near in
      let within = one_step (row_of_dot scene index d.place) (rows_up_to scene end) ROW
      (dot_up_to scene ordered index end d at (lasting end refl)) in
      omega (arith, bottom, within)
  above_bottom (Some end) ends before lasting near =
      let bottom = nearer (BAR_FOOT + row_of_place scene end * ROW) farthest near in
      let within = one_step (row_of_dot scene index d.place) (row_of_place scene end) ROW
      (dot_above_place scene ordered index end d at (before end refl)) in
      omega (arith, bottom, within)

  pub dot_on_bar : (bar : Bar) → slice_get scene.bars.items d.bar ≡ Some bar → IsPlaceIn bar d.place → IsWithinReach (frame_of scene bar)
      → HasCircle (frame_of scene bar) (dot_x scene d) (dot_y scene index d)
  dot_on_bar bar on within reach =
      let row = row_of_dot scene index d.place in
      let w = column_width scene in
      let foot = above_bottom bar.answered bar.ends within.unanswered within.lasting reach.bottom in
      let y : dot_y scene index d ≡ MIDDLE + row * ROW = near_is (MIDDLE + row * ROW) farthest (omega (arith, foot, reach.bottom)) in
      let below = dot_not_above scene ordered index bar.begins d at within.begun in
      let top : (frame_of scene bar).top ≡ BAR_TOP + row_of_place scene bar.begins * ROW =
      near_is (BAR_TOP + row_of_place scene bar.begins * ROW) farthest (omega (arith, foot, reach.bottom, below)) in
      let column = column_of scene bar.lane in
      let right = right_is scene column reach.right in
      let left = inside_is scene column reach.right BAR_LEFT (omega (arith, wide scene)) in
      let x : dot_x scene d ≡ DOT_LEFT + column * w =
      ap (λ (l : ℕ). across scene DOT_LEFT (column_of scene l)) (ap lane_or_first on)
      ∙ inside_is scene column reach.right DOT_LEFT (omega (arith, wide scene)) in
      record {
        left = omega (arith, left, x);
        right = omega (arith, right, x, wide scene);
        top = omega (arith, top, y, below);
        bottom = omega (arith, foot, y);
      }
