-- Texts of ASCII are UTF-8.
use Rattle.std.proofs.Common.{◌≡◌, ℕ, List, [], ◌∷◌, true, nat_lt, refl}
use Rattle.std.specs.Char.{is_ascii}
use Rattle.std.specs.Str.{IsUtf8}
use Rattle.std.specs.List.{list_all}
use Rattle.std.proofs.lemmas.Bool.{and_parts, and_from}
use Rattle.json.proofs.Printed.Utf8.{are_ascii, IsUtf8-are_ascii}

ascii_of : (text : List ℕ) → list_all is_ascii text ≡ true → are_ascii text ≡ true
ascii_of [] h = refl
ascii_of (b ∷ text) h = let p = and_parts (is_ascii b) (list_all is_ascii text) h in
    and_from (nat_lt b 128) (are_ascii text) p.0 (ascii_of text p.1)

pub utf8_of : (text : List ℕ) → list_all is_ascii text ≡ true → IsUtf8 text
utf8_of text h = IsUtf8-are_ascii text (ascii_of text h)
