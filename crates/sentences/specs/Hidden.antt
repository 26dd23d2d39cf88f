-- Characters that neither a terminal nor a page shows as they are, and what stands for them.
use Rattle.std.specs.Prelude.{ℕ, ◌/◌, ◌%◌, Bool, ◌||◌, ◌&&◌, not, ◌==◌, nat_le}
use Rattle.std.specs.Prelude.{List, [], ◌∷◌, ◌++◌, codes, flat_map, chars, if◌then◌else◌}
use Rattle.std.specs.Char.{is_control, digit_char, encode_utf8}

-- the character is of that range
abbrev pub is_between : ℕ → ℕ → ℕ → Bool
is_between low high c = nat_le low c && nat_le c high

-- the character breaks a line, or turns the direction in which text is shown
abbrev pub moves_text : ℕ → Bool
moves_text c =
    (c == 0x61C) || is_between 0x200E 0x200F c || is_between 0x2028 0x202E c
    || is_between 0x2066 0x2069 c

-- the character is not shown as it is: a control character, one that moves text, or one that XML
-- forbids
abbrev pub is_hidden : ℕ → Bool
is_hidden c = is_control c || moves_text c || is_between 0xFFFE 0xFFFF c

-- the character is shown as it is
abbrev pub is_shown : ℕ → Bool
is_shown c = not (is_hidden c)

-- a hidden character by its number: `\u` and four hexadecimal digits
abbrev pub number_escape : ℕ → List ℕ
number_escape c = codes "\\u" ++ digit_char (c / 4096 % 16) ∷ digit_char (c / 256 % 16)
    ∷ digit_char (c / 16 % 16) ∷ digit_char (c % 16) ∷ []

-- what is shown for a character: itself, or, if it is hidden, its number
abbrev pub shown_char : ℕ → List ℕ
shown_char c = if is_hidden c then number_escape c else encode_utf8 c

-- what is shown of a text, character by character
unfoldable pub shown_text : List ℕ → List ℕ
shown_text text = flat_map shown_char (chars text)
