-- What is shown of a text, and a text as a JSON text: UTF-8 of which no character is hidden.
use Rattle.std.proofs.Common.{ℕ, ◌≡◌, ◌<◌, ◌≤◌, Bool, true, false, not, cond, ◌&&◌, nat_le, nat_lt, List, [], ◌∷◌, ◌++◌}
use Rattle.std.proofs.Common.{flat_map, chars, codes, inl, inr, refl, sym, ap, ◌∙◌, arith, append-nil}
use lib.Utf8.{encode, scalar, scalars}
use Rattle.std.specs.Prelude.{if◌then◌else◌}
use Rattle.std.specs.Char.{digit_char}
use Rattle.std.specs.List.{list_all}
use Rattle.std.specs.Str.{IsUtf8}
use Rattle.std.proofs.lemmas.Bool.{agree_below_at, and_parts, and_from, cases_lt, leb-true, ne_eqb, not-false}
use Rattle.std.proofs.lemmas.List.Folds.{list_all-append}
use Rattle.std.proofs.lemmas.Str.{chars-IsAscii, chars-append, chars-nil, chars_past_char, scalars-chars}
use Rattle.std.proofs.lemmas.Str.{IsUtf8-append, IsUtf8-encode, IsUtf8-from_ascii, IsUtf8-nil}
use Rattle.json.specs.Print.{escape_letter}
use Rattle.sentences.specs.Hidden.{number_escape, is_between, is_hidden, is_shown, shown_char, shown_text}
use Rattle.sentences.specs.Words.{char_text, quoted_text}
use Rattle.sentences.proofs.Bytes.{all_ascii, numbered_all, weaker}

-- a byte that is a whole character, and no control character
abbrev is_typed : ℕ → Bool
is_typed b = is_between 32 126 b

below_127 : (b : ℕ) → is_typed b ≡ true → b < 127
below_127 b e = let ends = and_parts (nat_le 32 b) (nat_le b 126) e in omega (arith, leb-true b 126 ends.1)

typed_shown : (b : ℕ) → is_typed b ≡ true → is_shown b ≡ true
typed_shown b e =
    let same : (is_typed b && is_shown b) ≡ is_typed b =
    agree_below_at (λ n. is_typed n && is_shown n) is_typed 127 b refl (below_127 b e) in
    sym (ap (λ (t : Bool). t && is_shown b) e) ∙ same ∙ e

-- the bytes are characters, none of them hidden
pub record IsShown (bs : List ℕ) : Type 0 where
  pub utf8 : IsUtf8 bs
  pub shown : list_all is_shown (chars bs) ≡ true

pub typed : (bs : List ℕ) → list_all is_typed bs ≡ true → IsShown bs
typed bs e =
    let ascii = all_ascii is_typed below_127 bs e in
    record {
      utf8 = IsUtf8-from_ascii bs ascii;
      shown = ap (λ (cs : List ℕ). list_all is_shown cs) (chars-IsAscii bs ascii) ∙ weaker is_typed is_shown typed_shown bs e;
    }

pub append_shown : (xs ys : List ℕ) → IsShown xs → IsShown ys → IsShown (xs ++ ys)
append_shown xs ys first last = record {
  utf8 = IsUtf8-append xs ys first.utf8 last.utf8;
  shown = ap (λ (cs : List ℕ). list_all is_shown cs) (chars-append xs ys first.utf8) ∙ list_all-append is_shown (chars xs) (chars ys)
      ∙ and_from _ _ first.shown last.shown;
}

-- where what stands for each character is shown, so is what stands for all
pub each_shown : (f : ℕ → List ℕ) → ((c : ℕ) → scalar c ≡ true → IsShown (f c)) → (cs : List ℕ) → scalars cs ≡ true → IsShown (flat_map f cs)
each_shown f each [] e = record { utf8 = IsUtf8-nil; shown = ap (λ (cs : List ℕ). list_all is_shown cs) chars-nil }
each_shown f each (c ∷ cs) e =
    let parts = and_parts (scalar c) (scalars cs) e in
    append_shown (f c) (flat_map f cs) (each c parts.0) (each_shown f each cs parts.1)

hex_typed : (d : ℕ) → d < 16 → is_typed (digit_char d) ≡ true
hex_typed d small = agree_below_at (λ n. is_typed (digit_char n)) (λ _. true) 16 d refl small

encoded_shown : (c : ℕ) → scalar c ≡ true → is_hidden c ≡ false → IsShown (encode c)
encoded_shown c good plain =
    let utf8 = IsUtf8-encode c good in
    let alone : chars (encode c) ≡ c ∷ [] =
    chars_past_char (encode c) [] c utf8 (sym (append-nil (encode c))) ∙ ap (λ (cs : List ℕ). c ∷ cs) chars-nil in
    record {
      utf8 = utf8;
      shown = ap (λ (cs : List ℕ). list_all is_shown cs) alone ∙ rw plain refl;
    }

either_shown : (c : ℕ) (hidden : Bool) → scalar c ≡ true → is_hidden c ≡ hidden → IsShown (if hidden then number_escape c else encode c)
either_shown c true good e = typed (number_escape c) (numbered_all is_typed refl refl hex_typed c)
either_shown c false good e = encoded_shown c good e

-- what is shown for a character
pub char_is_shown : (c : ℕ) → scalar c ≡ true → IsShown (shown_char c)
char_is_shown c good = either_shown c (is_hidden c) good refl

-- what is shown of a text
pub text_is_shown : (words : List ℕ) → IsUtf8 words → IsShown (shown_text words)
unfolding shown_text
text_is_shown words utf8 = each_shown shown_char char_is_shown (chars words) (scalars-chars words utf8)

-- a short escape's letter isn't one that is typed
abbrev odd_letter : ℕ → Bool
odd_letter c = nat_lt 0 (escape_letter c) && not (is_typed (escape_letter c))

no_letter : (c : ℕ) → 127 ≤ c → escape_letter c ≡ 0
no_letter c high = rw (
  ne_eqb c 34 (λ e. omega (arith, e, high)),
  ne_eqb c 92 (λ e. omega (arith, e, high)),
  ne_eqb c 8 (λ e. omega (arith, e, high)),
  ne_eqb c 12 (λ e. omega (arith, e, high)),
  ne_eqb c 10 (λ e. omega (arith, e, high)),
  ne_eqb c 13 (λ e. omega (arith, e, high)),
  ne_eqb c 9 (λ e. omega (arith, e, high)),
) refl

none_odd : (c : ℕ) → odd_letter c ≡ false
none_odd c = elim (cases_lt c 127) [
  | inl low ↦ agree_below_at odd_letter (λ _. false) 127 c refl low
  | inr high ↦ ap (λ (x : ℕ). nat_lt 0 x && not (is_typed x)) (no_letter c high)
]

letter_typed : (c : ℕ) → nat_lt 0 (escape_letter c) ≡ true → is_typed (escape_letter c) ≡ true
letter_typed c e = not-false _ (sym (ap (λ (b : Bool). b && not (is_typed (escape_letter c))) e) ∙ none_odd c)

quoted_char : (c : ℕ) (short : Bool) → nat_lt 0 (escape_letter c) ≡ short → scalar c ≡ true
    → IsShown (cond short (codes "\\" ++ escape_letter c ∷ []) (shown_char c))
quoted_char c true e good = typed (92 ∷ escape_letter c ∷ []) (and_from _ _ refl (and_from _ _ (letter_typed c e) refl))
quoted_char c false e good = char_is_shown c good

-- a text as a JSON text
pub quoted_is_shown : (value : List ℕ) → IsUtf8 value → IsShown (quoted_text value)
unfolding char_text
quoted_is_shown value utf8 =
    let inside = each_shown char_text (λ c good. quoted_char c (nat_lt 0 (escape_letter c)) refl good) (chars value) (scalars-chars value utf8) in
    let mark : IsShown (codes "\"") = typed (codes "\"") refl in
    append_shown (codes "\"") _ mark (append_shown (flat_map char_text (chars value)) (codes "\"") inside mark)
