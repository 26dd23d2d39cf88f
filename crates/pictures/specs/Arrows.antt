-- The arrow between two calls whose precedence an order breaks: from the bar of the one that ended
-- first, in the row of its end, to above the bar of the other one, and down to its top.
use Rattle.std.specs.Prelude.{ℕ, ◌+◌, ◌-◌, ◌*◌, List, [], ◌∷◌, Option, Some, None, nat_lt, min, max}
use Rattle.std.specs.Prelude.{if◌then◌else◌, length, slice_get}
use Rattle.markup.specs.Markup.{Markup, both}
use Rattle.labels.specs.declared.places.Frame.{Frame}
use Rattle.labels.specs.Labels.{label_markup, polyline}
use Rattle.scenes.specs.declared.arrows.Arrow.{Arrow}
use Rattle.scenes.specs.declared.scene.Bar.{Bar}
use Rattle.scenes.specs.declared.scene.Scene.{Scene}
use Rattle.pictures.specs.declared.sizes.TheConstants.{ARROW_END, ARROW_LEFT, ARROW_RIGHT}
use Rattle.pictures.specs.declared.sizes.TheConstants.{HEAD_HEIGHT, HEAD_WIDTH, LINE_LETTERS}
use Rattle.pictures.specs.declared.sizes.TheConstants.{MIDDLE, RIGHT, TEXT_BASE, WORD_MARGIN}
use Rattle.pictures.specs.declared.style.TheConstants.{ARROW, BEFORE, BEFORE_WORD}
use Rattle.pictures.specs.Frames.{frame_of}
use Rattle.pictures.specs.Layout.{across, down, row_of_place}
use Rattle.pictures.specs.Texts.{if_any}

module _ (from to : Frame) where
  -- how far right the tip stands: on the far side of the bar to which the arrow leads
  abbrev pub arrow_tip : ℕ
  arrow_tip = if nat_lt to.left from.left then to.left + ARROW_LEFT else to.right - ARROW_RIGHT

  -- where the word begins: beside the bar that stands farther left
  abbrev pub word_left : ℕ
  word_left = if nat_lt to.left from.left then to.left + ARROW_LEFT + WORD_MARGIN
      else from.right + WORD_MARGIN

  -- the corners of the arrow that begins at that height, in tenths of a pixel: from the side of the
  -- one bar over the tip, down to the top of the other one, and the two sides of the head
  abbrev pub arrow_corners : ℕ → List ℕ
  arrow_corners y =
      max (min arrow_tip from.right) from.left * 10 ∷ y * 10
      ∷ arrow_tip * 10 ∷ y * 10
      ∷ arrow_tip * 10 ∷ to.top * 10
      ∷ (arrow_tip - HEAD_WIDTH) * 10 ∷ (to.top - HEAD_HEIGHT) * 10
      ∷ arrow_tip * 10 ∷ to.top * 10
      ∷ (arrow_tip + HEAD_WIDTH) * 10 ∷ (to.top - HEAD_HEIGHT) * 10 ∷ []

-- the arrow's word at that place
abbrev pub arrow_word : ℕ → ℕ → Markup
arrow_word x y = label_markup BEFORE.now x y LINE_LETTERS BEFORE_WORD.now

module _ (scene : Scene) where
  -- the row of that response, or else of that begin
  abbrev pub row_of_answer : Option ℕ → ℕ → ℕ
  row_of_answer None begins = row_of_place scene begins
  row_of_answer (Some place) begins = row_of_place scene place

  -- the row in which a bar's call is answered; a pending one's begins there
  abbrev pub last_row : Bar → ℕ
  last_row bar = row_of_answer bar.answered bar.begins

  -- the arrow from the one bar to the other, and its word
  abbrev pub between : Bar → Bar → Markup
  between from to = both
      (polyline ARROW.now (arrow_corners (frame_of scene from) (frame_of scene to)
      (down MIDDLE (last_row from))))
      (arrow_word (word_left (frame_of scene from) (frame_of scene to))
      (down TEXT_BASE (last_row from)))

  -- the arrow between two bars, if both are there
  abbrev pub joined : Arrow → Markup
  joined arrow = if_any (λ from. if_any (between from) (slice_get scene.bars.items arrow.to))
      (slice_get scene.bars.items arrow.from)

  -- the arrow, if there is one
  abbrev pub arrow_markup : Option Arrow → Markup
  arrow_markup arrow = if_any joined arrow

  -- where the picture ends in the column after the last: an arrow's word has more room
  abbrev pub end_of : Option Arrow → ℕ
  end_of None = across scene RIGHT (length scene.columns.items)
  end_of (Some arrow) = across scene ARROW_END (length scene.columns.items)
