-- Texts, lines and titles, each at its place.
use Rattle.std.specs.Prelude.{ℕ, List, [], ◌∷◌, decimal}
use Rattle.markup.specs.Markup.{Markup, NamedText, all_tenths_text, element, empty, text}
use Rattle.markup.specs.declared.names.AttributeName.{AttributeName}
use Rattle.markup.specs.declared.names.AttributeName.TheVariants as name
use Rattle.markup.specs.declared.names.Element.TheVariants as tag
use Rattle.labels.specs.declared.labels.Spot.{Spot}
use Rattle.labels.specs.declared.labels.Way.{Way}
use Rattle.labels.specs.Cuts.{cut}
use Rattle.labels.specs.Texts.{shown_words, text_of}

-- an attribute that is a text
abbrev pub words_of : AttributeName → List ℕ → NamedText
words_of name words = record { name = name; value = words }

-- an attribute that is a number
abbrev pub number_of : AttributeName → ℕ → NamedText
number_of name n = record { name = name; value = decimal n }

-- words of that class at that place: what is shown of them, cut to so much room
abbrev pub label_markup : List ℕ → ℕ → ℕ → ℕ → List ℕ → Markup
label_markup class x y room words = element tag.Text
    (words_of name.Class class ∷ number_of name.X x ∷ number_of name.Y y ∷ [])
    (cut room (shown_words words))

-- the words at that spot
abbrev pub words_at : Spot → List ℕ → Markup
words_at spot words = label_markup spot.class.now spot.x spot.y spot.room words

-- a title
abbrev pub title : List ℕ → Markup
title words = element tag.Title [] (text (text_of words))

-- a line of that class from one place to another
abbrev pub line_markup : List ℕ → Way → Markup
line_markup class way = empty tag.Line (words_of name.Class class ∷ number_of name.X1 way.x1
    ∷ number_of name.Y1 way.y1 ∷ number_of name.X2 way.x2 ∷ number_of name.Y2 way.y2 ∷ [])

-- the line of that class that joins these corners, in tenths of a pixel
abbrev pub polyline : List ℕ → List ℕ → Markup
polyline class corners = empty tag.Polyline
    (words_of name.Class class ∷ words_of name.Points (all_tenths_text corners) ∷ [])
