-- What holds of each byte of a text.
use Rattle.std.proofs.Common.{ℕ, ◌≡◌, ◌<◌, ◌/◌, ◌%◌, Bool, true, List, [], ◌∷◌, refl, arith}
use Rattle.std.specs.Char.{digit_char}
use Rattle.std.specs.List.{list_all}
use Rattle.std.specs.Str.{IsAscii}
use Rattle.std.proofs.lemmas.Bool.{and_parts, and_from}
use Rattle.std.proofs.lemmas.Str.Ascii.{IsAscii-nil, IsAscii-cons}
use Rattle.sentences.specs.Hidden.{number_escape}

-- bytes that are all below 127 are ASCII
pub all_ascii : (p : ℕ → Bool) → ((b : ℕ) → p b ≡ true → b < 127) → (bs : List ℕ) → list_all p bs ≡ true → IsAscii bs
all_ascii p below [] e = IsAscii-nil
all_ascii p below (b ∷ bs) e =
    let parts = and_parts (p b) (list_all p bs) e in
    IsAscii-cons b bs (omega (arith, below b parts.0)) (all_ascii p below bs parts.1)

-- what each byte of the one kind is, all are
pub weaker : (p q : ℕ → Bool) → ((b : ℕ) → p b ≡ true → q b ≡ true) → (bs : List ℕ) → list_all p bs ≡ true → list_all q bs ≡ true
weaker p q each [] e = refl
weaker p q each (b ∷ bs) e = let parts = and_parts (p b) (list_all p bs) e in and_from _ _ (each b parts.0) (weaker p q each bs parts.1)

-- what holds of `\u` and of each hexadecimal digit holds of a character's number
pub numbered_all : (p : ℕ → Bool) → p 92 ≡ true → p 117 ≡ true → ((d : ℕ) → d < 16 → p (digit_char d) ≡ true) → (c : ℕ)
    → list_all p (number_escape c) ≡ true
numbered_all p mark u hex c =
    and_from _ _ mark (and_from _ _ u
    (and_from _ _ (hex (c / 4096 % 16) (omega arith))
    (and_from _ _ (hex (c / 256 % 16) (omega arith))
    (and_from _ _ (hex (c / 16 % 16) (omega arith)) (and_from _ _ (hex (c % 16) (omega arith)) refl)))))
