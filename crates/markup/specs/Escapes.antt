-- How a text stands in a page, so that it stays text whatever it holds.
use Rattle.std.specs.Prelude.{ℕ, Bool, true, ◌||◌, ◌&&◌, not, ◌==◌, nat_eq}
use Rattle.std.specs.Prelude.{List, [], ◌∷◌, codes, flat_map, chars, if◌then◌else◌}
use Rattle.std.specs.List.{starts_with}
use Rattle.sentences.specs.Hidden.{is_between, shown_char}

-- what stands for a character: an escape for each that could be part of markup
abbrev pub escaped_char : ℕ → List ℕ
escaped_char c =
    if c == 38 then codes "&amp;" else
    if c == 60 then codes "&lt;" else
    if c == 62 then codes "&gt;" else
    if c == 34 then codes "&quot;" else
    if c == 39 then codes "&#39;" else shown_char c

-- what stands for a text: it is escaped character by character
unfoldable pub escaped : List ℕ → List ℕ
escaped text = flat_map escaped_char (chars text)

-- the byte could be part of markup
abbrev pub is_markup : ℕ → Bool
is_markup b = (b == 38) || (b == 60) || (b == 62) || (b == 34) || (b == 39)

-- the byte is a whole character that stands for itself
abbrev pub is_plain : ℕ → Bool
is_plain b = is_between 32 126 b && not (is_markup b)

-- the byte is no angle bracket and no quotation mark
abbrev pub is_harmless : ℕ → Bool
is_harmless b = not ((b == 60) || (b == 62) || (b == 34) || (b == 39))

-- with these bytes an escape goes on after its ampersand
abbrev pub ends_escape : List ℕ → Bool
ends_escape rest =
    starts_with nat_eq rest (codes "amp;") || starts_with nat_eq rest (codes "lt;")
    || starts_with nat_eq rest (codes "gt;") || starts_with nat_eq rest (codes "quot;")
    || starts_with nat_eq rest (codes "#39;")

-- each ampersand begins an escape
abbrev pub ampersands_escape : List ℕ → Bool
ampersands_escape [] = true
ampersands_escape (b ∷ rest) =
    (not (b == 38) || ends_escape rest) && ampersands_escape rest
