-- A picture on paper: strips of rows, each with the clients' names above it, and with what stands in
-- its rows of the bars that cross it.
use Rattle.std.specs.Prelude.{ℕ, ◌≡◌, ◌-◌, ◌≤◌, Bool, List, [], Option, Some, None}
use Rattle.std.specs.Prelude.{Contains, if◌then◌else◌}
use Rattle.markup.specs.Markup.{Markup, NamedText, nothing, element, both}
use Rattle.markup.specs.Texts.{of_class}
use Rattle.markup.specs.declared.names.Element.TheVariants as tag
use Rattle.labels.specs.Each.{each_below, each_from}
use Rattle.labels.specs.Images.{view_attributes}
use Rattle.labels.specs.Strips.{shows_some, strip_bottom, strip_top, strips_of}
use Rattle.recorder.specs.declared.part.Call.{Call}
use Rattle.scenes.specs.declared.scene.Bar.{Bar}
use Rattle.scenes.specs.declared.scene.Scene.{Scene}
use Rattle.pictures.specs.declared.picture.Picture.{Picture}
use Rattle.pictures.specs.declared.sizes.TheConstants.{NAMES_BASE, ROW_TOP}
use Rattle.pictures.specs.declared.style.TheConstants.{PAPER, PAPER_STRIP}
use Rattle.pictures.specs.Arrows.{arrow_markup, end_of}
use Rattle.pictures.specs.Bars.{call_of, class_of, is_faulty, own_key, place_of}
use Rattle.pictures.specs.Cuts.{cut_rows, is_cut}
use Rattle.pictures.specs.Frames.{corner_of, shape}
use Rattle.pictures.specs.Keys.{said_key}
use Rattle.pictures.specs.Layout.{row_of_place, rows_up_to}
use Rattle.pictures.specs.Marks.{dot_in, ground_in, path_in}
use Rattle.pictures.specs.Strips.{client_name}
use Rattle.pictures.specs.Texts.{if_any, strip_texts}

module _ (scene : Scene) where
  -- the row in which a bar with that response, or else with that end, ends; without one it goes to
  -- the bottom
  abbrev pub end_row : Option ℕ → Option ℕ → Option ℕ
  end_row None None = None
  end_row None (Some end) = Some (rows_up_to scene end - 1)
  end_row (Some place) ends = Some (row_of_place scene place)

  module _ (strip : ℕ) where
    -- the strip shows some of the bar
    abbrev pub shows_bar : Bar → Bool
    shows_bar bar =
        shows_some strip (row_of_place scene bar.begins) (end_row bar.answered bar.ends)

module _ (p : Picture) where
  -- the names of the clients above the rows
  abbrev pub names_view : Markup
  names_view = element tag.Svg (view_attributes (end_of p.scene.now p.before) 0 ROW_TOP)
      (each_from (client_name p.scene.now NAMES_BASE) 0 p.scene.now.columns.items)

  module _ (strip : ℕ) where
    -- of the bar of a call on that key its shape, and what stands in rows of the strip
    abbrev pub call_in : ℕ → Bar → Call → List ℕ → Markup
    call_in index bar call key =
        element tag.G (of_class (class_of call.action (is_faulty p call.op)))
        (both (shape p.scene.now bar (corner_of call.action))
        (strip_texts p.scene.now strip bar (is_faulty p call.op) (place_of p index)
        (said_key p.keys key) call))

    -- the same of the bar of that index, with the call of its number
    abbrev pub known_bar_in : ℕ → Bar → Markup
    known_bar_in index bar = if_any (λ call. if_any (call_in index bar call) (own_key p call))
        (call_of p.part.now bar.call)

    -- the same, if the strip shows some of the bar
    abbrev pub bar_in : ℕ → Bar → Markup
    bar_in index bar = if shows_bar p.scene.now strip bar then known_bar_in index bar else nothing

    -- the part of the line along the order that crosses the strip, the bars above it, and the dots
    -- and the arrow above these
    abbrev pub calls_in : Markup
    calls_in = both (path_in p.scene.now strip)
        (both (each_from bar_in 0 p.scene.now.bars.items)
        (both (each_from (dot_in p.scene.now strip) 0 p.scene.now.dots.items)
        (arrow_markup p.scene.now p.before)))

    -- from where to where the strip's rows go
    abbrev pub rows_attributes : List NamedText
    rows_attributes = view_attributes (end_of p.scene.now p.before)
        (strip_top (cut_rows p.scene.now) strip)
        (strip_bottom (cut_rows p.scene.now) strip - strip_top (cut_rows p.scene.now) strip)

    -- the rows of the strip
    abbrev pub rows_view : Markup
    rows_view = element tag.Svg rows_attributes
        (both (ground_in p.scene.now strip p.hall) calls_in)

    -- the strip
    abbrev pub paper_strip : Markup
    paper_strip = element tag.Div (of_class PAPER_STRIP.now) (both names_view rows_view)

  -- the strips, one after another
  abbrev pub paper_strips : Markup
  paper_strips = each_below paper_strip (strips_of (cut_rows p.scene.now))

  -- what there is of the picture on paper alone: its strips, if it is cut
  abbrev pub paper : Markup
  paper = if is_cut p.scene.now then element tag.Div (of_class PAPER.now) paper_strips
      else nothing

-- the bar can have a text at that place: it is a tick, not before the bar's begin, and neither after
-- its response nor after its end
pub record CanSayAt (scene : Scene) (bar : Bar) (place : ℕ) : Type 0 where
  pub tick : Contains scene.ticks.items place
  pub begun : bar.begins ≤ place
  pub unanswered : (answer : ℕ) → bar.answered ≡ Some answer → place ≤ answer
  pub lasting : (end : ℕ) → bar.ends ≡ Some end → place ≤ end
