-- An escaped text is UTF-8, and no character of it is hidden.
use Rattle.std.proofs.Common.{ℕ, ◌≡◌, true, List, chars, codes, refl}
use lib.Utf8.{scalar}
use Rattle.std.specs.Str.{IsUtf8}
use Rattle.std.proofs.lemmas.Str.{scalars-chars}
use Rattle.sentences.proofs.Shown.{IsShown, char_is_shown, each_shown, typed}
use Rattle.markup.specs.Escapes.{escaped, escaped_char}
use Rattle.markup.proofs.Harmless.{by_escape}

char_shown : (c : ℕ) → scalar c ≡ true → IsShown (escaped_char c)
char_shown c good = by_escape IsShown (typed (codes "&amp;") refl) (typed (codes "&lt;") refl) (typed (codes "&gt;") refl)
    (typed (codes "&quot;") refl) (typed (codes "&#39;") refl) c (λ none. char_is_shown c good)

pub escaped_shown : (words : List ℕ) → IsUtf8 words → IsShown (escaped words)
unfolding escaped
escaped_shown words utf8 = each_shown escaped_char char_shown (chars words) (scalars-chars words utf8)
