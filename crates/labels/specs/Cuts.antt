-- How a text is cut to the room that it has, so that it doesn't run into another.
use Rattle.std.specs.Prelude.{ℕ, ◌-◌, ◌==◌, Bool, nat_lt, if◌then◌else◌}
use Rattle.std.specs.Prelude.{List, [], ◌∷◌, length, chars, flat_map}
use Rattle.std.specs.Char.{encode_utf8}
use Rattle.std.specs.List.{sum_by}
use Rattle.markup.specs.Markup.{Markup, both, text}
use Rattle.labels.specs.declared.style.TheConstants.{ELLIPSIS}

-- how many letters' room a character takes: one, or two past the scripts of narrow characters
abbrev pub cells : ℕ → ℕ
cells c = if nat_lt c 0x1100 then 1 else 2

-- how many letters' room a text takes
abbrev pub width : List ℕ → ℕ
width words = sum_by cells (chars words)

-- the first characters that fit into the room
abbrev pub fitting : ℕ → List ℕ → List ℕ
fitting room [] = []
fitting room (c ∷ cs) = if nat_lt room (cells c) then [] else c ∷ fitting (room - cells c) cs

-- the beginning of a text that fits into the room
unfoldable pub beginning : ℕ → List ℕ → List ℕ
beginning room words = flat_map encode_utf8 (fitting room (chars words))

-- the text fits into the room
abbrev pub fits : ℕ → List ℕ → Bool
fits room words = length (beginning room words) == length words

-- a text; or, if it doesn't fit into the room, a beginning of it and an ellipsis
abbrev pub cut : ℕ → List ℕ → Markup
cut room words = if fits room words then text words
    else both (text (beginning (room - 1) words)) (text ELLIPSIS.now)
