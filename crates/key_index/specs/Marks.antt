-- Marks of keys: numbers by which most keys are told apart.
use Rattle.std.specs.Prelude.{ℕ, ◌+◌, ◌*◌, ◌/◌, ◌%◌, ◌^◌, List, fold}

-- a number, and a byte as its next digit
abbrev pub digit_more : ℕ → ℕ → ℕ
digit_more digits byte = (digits + byte) % 2 ^ 64 * 11400714819323198485 % 2 ^ 64

-- the key's bytes as the digits of a number, of which 64 bits are kept
abbrev pub digits_of : List ℕ → ℕ
digits_of key = fold digit_more 0 key

-- the key's mark: the upper 32 of these bits
abbrev pub mark_of : List ℕ → ℕ
mark_of key = digits_of key / 2 ^ 32
