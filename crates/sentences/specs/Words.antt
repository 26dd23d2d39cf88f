-- What sentences are made of: numbers, tags, and values as JSON texts.
use Rattle.std.specs.Prelude.{ℕ, ◌/◌, ◌%◌, List, [], ◌∷◌, ◌++◌, Option, Some, None, cond, nat_lt}
use Rattle.std.specs.Prelude.{chars, codes, decimal, flat_map}
use Rattle.std.specs.Char.{digit_char}
use Rattle.json.specs.Print.{escape_letter}
use Rattle.sentences.specs.Hidden.{shown_char}
use Rattle.tag.specs.Tags.{Tag}

-- words and then a number
abbrev pub numbered : List ℕ → ℕ → List ℕ
numbered words number = words ++ decimal number

-- a tag: its number and its writer
unfoldable pub tag_text : Tag → List ℕ
tag_text tag =
    codes "(" ++ decimal tag.number ++ codes ", " ++ decimal tag.writer ++ codes ")"

-- the long escape of a character below U+0100
abbrev pub control_escape : ℕ → List ℕ
control_escape c = codes "\\u00" ++ digit_char (c / 16) ∷ digit_char (c % 16) ∷ []

-- a character in a JSON text: `"`, `\` and each hidden character as its escape, others as they are
unfoldable pub char_text : ℕ → List ℕ
char_text c = cond (nat_lt 0 (escape_letter c)) (codes "\\" ++ escape_letter c ∷ []) (shown_char c)

-- a text as a JSON text
abbrev pub quoted_text : List ℕ → List ℕ
quoted_text text = codes "\"" ++ flat_map char_text (chars text) ++ codes "\""

-- a value as a JSON text; `null` stands for no value
unfoldable pub value_text : Option (List ℕ) → List ℕ
value_text None = codes "null"
value_text (Some value) = quoted_text value
