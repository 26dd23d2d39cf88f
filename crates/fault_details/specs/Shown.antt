-- What stands in a file, as it is shown: cut where it is long, and with no control character as it
-- is.
use Rattle.std.specs.Prelude.{ℕ, zero, suc, ◌/◌, ◌%◌, ◌&&◌, ◌||◌, ◌==◌, List, [], ◌∷◌, ◌++◌, Bool}
use Rattle.std.specs.Prelude.{codes, decimal, length, take, slice_index, nat_le, nat_lt}
use Rattle.std.specs.Prelude.{if◌then◌else◌}
use Rattle.sentences.specs.Words.{control_escape}

-- ---- numbers

-- three digits after a comma
unfoldable pub group : ℕ → List ℕ
group n = (if nat_lt n 10 then codes ",00" else if nat_lt n 100 then codes ",0" else codes ",")
    ++ decimal n

-- a number, a comma before each three digits from the right where it is below 1,000,000,000,000
unfoldable pub grouped : ℕ → List ℕ
grouped n = if nat_lt n 1000 then decimal n
    else if nat_lt n 1000000 then decimal (n / 1000) ++ group (n % 1000)
    else if nat_lt n 1000000000
    then decimal (n / 1000000) ++ group (n / 1000 % 1000) ++ group (n % 1000)
    else if nat_lt n 1000000000000
    then decimal (n / 1000000000) ++ group (n / 1000000 % 1000) ++ group (n / 1000 % 1000)
    ++ group (n % 1000)
    else decimal n

-- ---- texts

-- the bytes U+0000 to U+001F and U+007F
abbrev pub is_control : ℕ → Bool
is_control byte = nat_lt byte 32 || byte == 127

-- what is shown for a byte and the one before it, of UTF-8: U+0080 to U+009F are 194 and then 128
-- to 159, so 194 is shown with the byte after it
unfoldable pub piece : ℕ → ℕ → List ℕ
piece before byte =
    if before == 194 then (if nat_lt byte 160 then control_escape byte else 194 ∷ byte ∷ [])
    else if byte == 194 then [] else if is_control byte then control_escape byte else byte ∷ []

-- the bytes after that one, control characters as escapes
abbrev pub plain_after : ℕ → List ℕ → List ℕ
plain_after before [] = []
plain_after before (byte ∷ bytes) = piece before byte ++ plain_after byte bytes

-- a byte that isn't the first of its character
abbrev pub is_within : ℕ → Bool
is_within byte = nat_le 128 byte && nat_lt byte 192

-- the greatest place, at most that, at which a character begins; 0 if there is none
unfoldable pub boundary : ℕ → List ℕ → ℕ
boundary zero bytes = 0
boundary (suc n) bytes =
    if is_within (slice_index bytes (suc n)) then boundary n bytes else suc n

-- how many bytes of a text are shown
abbrev pub most_shown : ℕ
most_shown = 60

-- a text as it is shown
unfoldable pub shown : List ℕ → List ℕ
shown bytes = if nat_le (length bytes) most_shown then plain_after 0 bytes
    else plain_after 0 (take (boundary most_shown bytes) bytes) ++ codes "..."

-- a line of its own, after two blanks
abbrev pub sentence : List ℕ → List ℕ
sentence words = codes "  " ++ plain_after 0 words ++ codes "\n"
