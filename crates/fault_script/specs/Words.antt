-- Words of a line, and the numbers that words are.
use Rattle.std.specs.Prelude.{ℕ, ◌*◌, ◌+◌, ◌-◌, ◌^◌, ◌==◌, ◌||◌, ◌&&◌, List, [], ◌∷◌, Bool, true}
use Rattle.std.specs.Prelude.{false, not, Option, Some, None, Result, Ok, Err, drop, length, take}
use Rattle.std.specs.Prelude.{filter, fold, slice_index, nat_lt, nat_le, if◌then◌else◌}
use Rattle.std.specs.List.{list_all, slice_split, after_first, position_or_len}
use Rattle.std.specs.Char.{is_ascii_digit}
use Rattle.fault_script.specs.declared.fault.LineFault.{LineFault}
use Rattle.fault_script.specs.declared.fault.LineFault.TheVariants.{UnknownCommand}

-- a space or a tab
abbrev pub is_space : ℕ → Bool
is_space b = b == 32 || b == 9

-- some bytes
abbrev pub has_bytes : List ℕ → Bool
has_bytes [] = false
has_bytes (b ∷ bytes) = true

-- the words of a text: what stands between spaces and tabs and isn't empty
unfoldable pub words : List ℕ → List (List ℕ)
words text = filter has_bytes (slice_split is_space text)

-- the text from its first byte that is no space or tab
abbrev pub without_spaces : List ℕ → List ℕ
without_spaces text = drop (position_or_len (λ b. not (is_space b)) text) text

-- what stands after the one space or tab that ends the first word; nothing where the text ends
-- there
unfoldable pub behind_word : List ℕ → List ℕ
behind_word text = after_first is_space (without_spaces text)

-- what stands after the first three words
abbrev pub behind_three : List ℕ → List ℕ
behind_three text = behind_word (behind_word (behind_word text))

-- the line without a final byte 13
abbrev pub without_return : List ℕ → List ℕ
without_return line =
    if slice_index line (length line - 1) == 13 then take (length line - 1) line else line

-- one or more digits and nothing else
abbrev pub is_numeral : List ℕ → Bool
is_numeral word = nat_le 1 (length word) && list_all is_ascii_digit word

-- the number that digits write
abbrev pub decimal_value : List ℕ → ℕ
decimal_value digits = fold (λ n digit. n * 10 + (digit - 48)) 0 digits

-- a number below 2^64; one above is in no range
abbrev pub u64_of : ℕ → Option ℕ
u64_of n = if nat_lt n (2 ^ 64) then Some n else None

-- the number that a word is
unfoldable pub number_of : List ℕ → Result (Option ℕ) LineFault
number_of word = if is_numeral word then Ok (u64_of (decimal_value word)) else Err UnknownCommand
