-- The calls that a picture shows, in ranges: between those of a range no call is left out.
use Rattle.std.specs.Prelude.{◌==◌, ◌&&◌, Bool, List, [], ◌∷◌, cond, decimal, nat_lt}
use Rattle.std.specs.List.{list_any}
use Rattle.markup.specs.Markup.{Markup, nothing, text, both}
use Rattle.scenes.specs.declared.gaps.Gap.{Gap}
use Rattle.scenes.specs.declared.scene.Bar.{Bar}
use Rattle.draw_command.specs.declared.words.TheConstants as word

-- the gap lies between the begins of the two bars
abbrev pub is_between : Bar → Bar → Gap → Bool
is_between one next gap = nat_lt one.begins gap.place && nat_lt gap.place next.begins

-- calls are left out between the two bars
abbrev pub is_cut : List Gap → Bar → Bar → Bool
is_cut gaps one next = list_any (is_between one next) gaps

-- a bar before ranges, of each of which the first and the last bar stand there: it begins the first
-- of them, or, if calls are left out between, it is a range of its own
abbrev pub set_before : List Gap → Bar → List (Bar × Bar) → List (Bar × Bar)
set_before gaps bar [] = (bar, bar) ∷ []
set_before gaps bar (range ∷ ranges) = cond (is_cut gaps bar range.0)
    ((bar, bar) ∷ range ∷ ranges) ((bar, range.1) ∷ ranges)

-- the ranges of bars
abbrev pub ranges_of : List Gap → List Bar → List (Bar × Bar)
ranges_of gaps [] = []
ranges_of gaps (bar ∷ bars) = set_before gaps bar (ranges_of gaps bars)

-- the numbers of the calls of a range: the first and the last, or one if they are the same
abbrev pub range_markup : Bar × Bar → Markup
range_markup range = both (text (decimal range.0.call.0))
    (cond (range.0.call.0 == range.1.call.0) nothing
    (both (text word.TO.now) (text (decimal range.1.call.0))))

-- those of all ranges
abbrev pub ranges_markup : List (Bar × Bar) → Markup
ranges_markup [] = text word.NO_CALL.now
ranges_markup (range ∷ []) = range_markup range
ranges_markup (range ∷ next ∷ ranges) =
    both (range_markup range) (both (text word.AND.now) (ranges_markup (next ∷ ranges)))
