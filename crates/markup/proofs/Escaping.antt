-- What escaping leaves as it is: plain bytes, and so the digits of a number.
use Rattle.std.proofs.Common.{ℕ, suc, ◌≡◌, ◌+◌, ◌/◌, ◌%◌, ◌^◌, ◌<◌, Bool, true, false, not, ◌&&◌, ◌==◌, nat_le, List}
use Rattle.std.proofs.Common.{[], ◌∷◌, ◌++◌, flat_map, chars, codes, decimal, All, refl, sym, ap, ◌∙◌, arith}
use lib.Utf8.{encode}
use Rattle.std.specs.List.{list_all}
use Rattle.std.specs.Str.{IsUtf8, IsAscii}
use Rattle.std.proofs.lemmas.Bool.{agree_below_at, and_parts, and_from, eqb-true, leb-true, not-false, false≢true}
use Rattle.std.proofs.lemmas.Fmt.{decimal_by_steps}
use Rattle.std.proofs.lemmas.Grind.{flat_map-append}
use Rattle.std.proofs.lemmas.List.Folds.{list_all-append}
use Rattle.std.proofs.lemmas.Str.{chars-IsAscii, chars-append}
use Rattle.sentences.specs.Hidden.{is_between}
use Rattle.sentences.proofs.Bytes.{all_ascii}
use Rattle.markup.specs.Escapes.{escaped, escaped_char, is_markup, is_plain}
use Rattle.markup.specs.Markup.{all_tenths_text, tenths_text}

-- the bytes are that one
is_alone : ℕ → List ℕ → Bool
is_alone b [] = false
is_alone b (x ∷ []) = x == b
is_alone b (x ∷ y ∷ rest) = false

from_alone : (b : ℕ) (bs : List ℕ) → is_alone b bs ≡ true → bs ≡ b ∷ []
unfolding is_alone
from_alone b [] e = absurd (false≢true e)
from_alone b (x ∷ []) e = ap (λ (y : ℕ). y ∷ []) (eqb-true x b e)
from_alone b (x ∷ y ∷ rest) e = absurd (false≢true e)

-- a byte below 127 either isn't plain or stands for itself
abbrev escapes_plain : ℕ → Bool
escapes_plain b = is_plain b && not (is_alone b (escaped_char b))

below_127 : (b : ℕ) → is_plain b ≡ true → b < 127
below_127 b e =
    let range = and_parts (is_between 32 126 b) (not (is_markup b)) e in
    let ends = and_parts (nat_le 32 b) (nat_le b 126) range.0 in
    omega (arith, leb-true b 126 ends.1)

pub plain_char : (b : ℕ) → is_plain b ≡ true → escaped_char b ≡ b ∷ []
unfolding is_alone encode
plain_char b e =
    let none : escapes_plain b ≡ false = agree_below_at escapes_plain (λ _. false) 127 b refl (below_127 b e) in
    let alone : not (is_alone b (escaped_char b)) ≡ false = sym (ap (λ (p : Bool). p && not (is_alone b (escaped_char b))) e) ∙ none in
    from_alone b (escaped_char b) (not-false _ alone)

pub plain_ascii : (bs : List ℕ) → list_all is_plain bs ≡ true → IsAscii bs
plain_ascii bs e = all_ascii is_plain below_127 bs e

plain_chars : (bs : List ℕ) → list_all is_plain bs ≡ true → flat_map escaped_char bs ≡ bs
plain_chars [] e = refl
plain_chars (b ∷ bs) e =
    let parts = and_parts (is_plain b) (list_all is_plain bs) e in
    ap (λ (s : List ℕ). s ++ flat_map escaped_char bs) (plain_char b parts.0) ∙ ap (λ (s : List ℕ). b ∷ s) (plain_chars bs parts.1)

-- a plain text is its own escape
pub plain_escaped : (bs : List ℕ) → list_all is_plain bs ≡ true → escaped bs ≡ bs
unfolding escaped
plain_escaped bs e = ap (λ (cs : List ℕ). flat_map escaped_char cs) (chars-IsAscii bs (plain_ascii bs e)) ∙ plain_chars bs e

plain_digit : (n : ℕ) → n < 10 → is_plain (48 + n) ≡ true
plain_digit n small = agree_below_at (λ d. is_plain (48 + d)) (λ _. true) 10 n refl small

pub plain_decimal : (n : ℕ) → n < 2 ^ 64 → list_all is_plain (decimal n) ≡ true
plain_decimal n fits = decimal_by_steps (λ _ ds. list_all is_plain ds ≡ true)
    (λ d small. and_from _ _ (plain_digit d small) refl)
    (λ m ds above h. list_all-append is_plain ds ((48 + m % 10) ∷ [])
    ∙ and_from _ _ h (and_from _ _ (plain_digit (m % 10) (omega arith)) refl))
    n fits

pub escaped_decimal : (n : ℕ) → n < 2 ^ 64 → escaped (decimal n) ≡ decimal n
escaped_decimal n fits = plain_escaped (decimal n) (plain_decimal n fits)

plain_tenths : (n : ℕ) → n < 2 ^ 64 → list_all is_plain (tenths_text n) ≡ true
plain_tenths n fits =
    let whole = plain_decimal (n / 10) (omega arith) in
    let tenth = plain_decimal (n % 10) (omega arith) in
    let first : list_all is_plain (decimal (n / 10) ++ codes ".") ≡ true =
    list_all-append is_plain (decimal (n / 10)) (codes ".") ∙ and_from _ _ whole refl in
    list_all-append is_plain (decimal (n / 10) ++ codes ".") (decimal (n % 10)) ∙ and_from _ _ first tenth

pub escaped_tenths : (n : ℕ) → n < 2 ^ 64 → escaped (tenths_text n) ≡ tenths_text n
escaped_tenths n fits = plain_escaped (tenths_text n) (plain_tenths n fits)

plain_all_tenths : (ns : List ℕ) → All (λ n. n < 2 ^ 64) ns → list_all is_plain (all_tenths_text ns) ≡ true
plain_all_tenths [] fit = refl
plain_all_tenths (n ∷ ns) fit =
    list_all-append is_plain (codes " " ++ tenths_text n) (all_tenths_text ns)
    ∙ and_from _ _ (and_from (is_plain 32) (list_all is_plain (tenths_text n)) refl (plain_tenths n (fit 0 n (omega arith))))
    (plain_all_tenths ns (λ k d within. fit (suc k) d (omega (arith, within))))

pub escaped_all_tenths : (ns : List ℕ) → All (λ n. n < 2 ^ 64) ns → escaped (all_tenths_text ns) ≡ all_tenths_text ns
escaped_all_tenths ns fit = plain_escaped (all_tenths_text ns) (plain_all_tenths ns fit)

-- a number after a text is not escaped
pub escaped_numbered : (bs : List ℕ) (n : ℕ) → IsUtf8 bs → n < 2 ^ 64 → escaped (bs ++ decimal n) ≡ escaped bs ++ decimal n
unfolding escaped
escaped_numbered bs n text fits =
    ap (λ (cs : List ℕ). flat_map escaped_char cs) (chars-append bs (decimal n) text)
    ∙ flat_map-append escaped_char (chars bs) (chars (decimal n))
    ∙ ap (λ (s : List ℕ). escaped bs ++ s) (escaped_decimal n fits)
