-- An escaped text has no markup but escapes.
use Rattle.std.proofs.Common.{ℕ, ◌≡◌, ◌+◌, ◌/◌, ◌<◌, ◌≤◌, Bool, true, false, not, ◌&&◌, ◌||◌, ◌==◌, cond, nat_lt, List, []}
use Rattle.std.proofs.Common.{◌∷◌, ◌++◌, flat_map, chars, codes, inl, inr, refl, ◌∙◌, arith}
use lib.Utf8.{encode, next}
use Rattle.std.specs.Prelude.{if◌then◌else◌}
use Rattle.std.specs.Char.{digit_char}
use Rattle.std.specs.List.{list_all}
use Rattle.std.proofs.lemmas.Bool.{agree_below_at, and_parts, and_from, cases_lt, ne_eqb, le-ltb, false≢true}
use Rattle.std.proofs.lemmas.List.Folds.{list_all-append}
use Rattle.std.proofs.lemmas.Str.{encode_ascii}
use Rattle.sentences.specs.Hidden.{shown_char, number_escape, is_hidden}
use Rattle.sentences.proofs.Bytes.{numbered_all, weaker}
use Rattle.markup.specs.Escapes.{escaped, escaped_char, is_markup, is_harmless, ends_escape, ampersands_escape}

-- the byte is no part of markup
abbrev is_calm : ℕ → Bool
is_calm b = not (is_markup b)

high_calm : (b : ℕ) → 128 ≤ b → is_calm b ≡ true
high_calm b high = rw (
  ne_eqb b 38 (λ e. omega (arith, e, high)),
  ne_eqb b 60 (λ e. omega (arith, e, high)),
  ne_eqb b 62 (λ e. omega (arith, e, high)),
  ne_eqb b 34 (λ e. omega (arith, e, high)),
  ne_eqb b 39 (λ e. omega (arith, e, high)),
) refl

-- the bytes of a character above 127 are above 127
high_bytes : (c : ℕ) (y z : Bool)
    → list_all is_calm (cond y ((192 + c / 64) ∷ next c ∷ [])
    (cond z ((224 + c / 4096) ∷ next (c / 64) ∷ next c ∷ [])
    ((240 + c / 262144) ∷ next (c / 4096) ∷ next (c / 64) ∷ next c ∷ [])))
    ≡ true
high_bytes c true z = rw (high_calm (192 + c / 64) (omega arith), high_calm (next c) (omega arith)) refl
high_bytes c false true =
    rw (high_calm (224 + c / 4096) (omega arith), high_calm (next (c / 64)) (omega arith), high_calm (next c) (omega arith)) refl
high_bytes c false false = rw (
  high_calm (240 + c / 262144) (omega arith),
  high_calm (next (c / 4096)) (omega arith),
  high_calm (next (c / 64)) (omega arith),
  high_calm (next c) (omega arith),
) refl

high_encoded : (c : ℕ) → 128 ≤ c → list_all is_calm (encode c) ≡ true
unfolding encode
high_encoded c high = rw (le-ltb c 128 high) (high_bytes c (nat_lt c 2048) (nat_lt c 65536))

encoded_calm : (c : ℕ) → is_markup c ≡ false → list_all is_calm (encode c) ≡ true
encoded_calm c calm = elim (cases_lt c 128) [
  | inl low ↦ rw (encode_ascii c low) (rw calm refl)
  | inr high ↦ high_encoded c high
]

hex_calm : (d : ℕ) → d < 16 → is_calm (digit_char d) ≡ true
hex_calm d small = agree_below_at (λ n. is_calm (digit_char n)) (λ _. true) 16 d refl small

shown_calm : (c : ℕ) (hidden : Bool) → is_markup c ≡ false → list_all is_calm (if hidden then number_escape c else encode c) ≡ true
shown_calm c true calm = numbered_all is_calm refl refl hex_calm c
shown_calm c false calm = encoded_calm c calm

-- one of six
choose : (P : List ℕ → Type 0) (v w x y z : Bool) (a b c d e s : List ℕ) → P a → P b → P c → P d → P e
    → (v ≡ false → w ≡ false → x ≡ false → y ≡ false → z ≡ false → P s)
    → P (if v then a else if w then b else if x then c else if y then d else if z then e else s)
choose P true w x y z a b c d e s pa pb pc pd pe ps = pa
choose P false true x y z a b c d e s pa pb pc pd pe ps = pb
choose P false false true y z a b c d e s pa pb pc pd pe ps = pc
choose P false false false true z a b c d e s pa pb pc pd pe ps = pd
choose P false false false false true a b c d e s pa pb pc pd pe ps = pe
choose P false false false false false a b c d e s pa pb pc pd pe ps = ps refl refl refl refl refl

no_markup : (c : ℕ) → (c == 38) ≡ false → (c == 60) ≡ false → (c == 62) ≡ false → (c == 34) ≡ false → (c == 39) ≡ false
    → is_markup c ≡ false
no_markup c e38 e60 e62 e34 e39 = rw (e38, e60, e62, e34, e39) refl

-- what holds of the five escapes, and of what is shown of others, holds of each escaped character
pub by_escape : (P : List ℕ → Type 0) → P (codes "&amp;") → P (codes "&lt;") → P (codes "&gt;") → P (codes "&quot;")
    → P (codes "&#39;") → (c : ℕ) → (is_markup c ≡ false → P (shown_char c)) → P (escaped_char c)
by_escape P amp lt gt quot apostrophe c others =
    choose P (c == 38) (c == 60) (c == 62) (c == 34) (c == 39)
    (codes "&amp;") (codes "&lt;") (codes "&gt;") (codes "&quot;") (codes "&#39;")
    (shown_char c) amp lt gt quot apostrophe
    (λ e38 e60 e62 e34 e39. others (no_markup c e38 e60 e62 e34 e39))

-- the same, of calm bytes
by_kind : (P : List ℕ → Type 0) → P (codes "&amp;") → P (codes "&lt;") → P (codes "&gt;") → P (codes "&quot;")
    → P (codes "&#39;") → ((bs : List ℕ) → list_all is_calm bs ≡ true → P bs) → (c : ℕ) → P (escaped_char c)
by_kind P amp lt gt quot apostrophe calm c =
    by_escape P amp lt gt quot apostrophe c (λ none. calm (shown_char c) (shown_calm c (is_hidden c) none))

drop_first : (a b c d e : Bool) → not (a || b || c || d || e) ≡ true → not (b || c || d || e) ≡ true
drop_first true b c d e h = absurd (false≢true h)
drop_first false b c d e h = h

only_first : (a b c d e : Bool) → not (a || b || c || d || e) ≡ true → not a ≡ true
only_first true b c d e h = h
only_first false b c d e h = refl

harmless_char : (c : ℕ) → list_all is_harmless (escaped_char c) ≡ true
harmless_char c = by_kind (λ bs. list_all is_harmless bs ≡ true) refl refl refl refl refl
    (weaker is_calm is_harmless (λ b. drop_first (b == 38) (b == 60) (b == 62) (b == 34) (b == 39))) c

harmless_chars : (cs : List ℕ) → list_all is_harmless (flat_map escaped_char cs) ≡ true
harmless_chars [] = refl
harmless_chars (c ∷ cs) = list_all-append is_harmless (escaped_char c) (flat_map escaped_char cs)
    ∙ and_from _ _ (harmless_char c) (harmless_chars cs)

-- no byte of an escaped text is an angle bracket or a quotation mark
pub escaped_harmless : (words : List ℕ) → list_all is_harmless (escaped words) ≡ true
unfolding escaped
escaped_harmless words = harmless_chars (chars words)

no_ampersand : (b : ℕ) (x y : Bool) → not (b == 38) ≡ true → ((not (b == 38) || x) && y) ≡ y
no_ampersand b x y e = rw e refl

calm_then : (rest bs : List ℕ) → list_all is_calm bs ≡ true → ampersands_escape (bs ++ rest) ≡ ampersands_escape rest
calm_then rest [] e = refl
calm_then rest (b ∷ bs) e =
    let parts = and_parts (is_calm b) (list_all is_calm bs) e in
    no_ampersand b (ends_escape (bs ++ rest)) (ampersands_escape (bs ++ rest))
    (only_first (b == 38) (b == 60) (b == 62) (b == 34) (b == 39) parts.0)
    ∙ calm_then rest bs parts.1

escape_then : (rest : List ℕ) (c : ℕ) → ampersands_escape (escaped_char c ++ rest) ≡ ampersands_escape rest
escape_then rest c = by_kind (λ bs. ampersands_escape (bs ++ rest) ≡ ampersands_escape rest) refl refl refl refl refl (calm_then rest) c

ampersands_chars : (cs : List ℕ) → ampersands_escape (flat_map escaped_char cs) ≡ true
ampersands_chars [] = refl
ampersands_chars (c ∷ cs) = escape_then (flat_map escaped_char cs) c ∙ ampersands_chars cs

-- each ampersand of an escaped text begins an escape
pub escaped_ampersands : (words : List ℕ) → ampersands_escape (escaped words) ≡ true
unfolding escaped
escaped_ampersands words = ampersands_chars (chars words)
