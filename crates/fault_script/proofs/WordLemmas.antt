-- Words, taken from a text one after another.
use Rattle.std.proofs.Common.{ℕ, suc, ◌≡◌, ◌<◌, ◌+◌, ◌||◌, ◌==◌, List, [], ◌∷◌, length, get_or}
use Rattle.std.proofs.Common.{take, drop, Bool, true, false, not, cond, filter, Option, Some, None}
use Rattle.std.proofs.Common.{nat_lt, position, unwrap_or, refl, sym, ap, ◌∙◌, subst, arith}
use Rattle.std.proofs.Common.{eqb-true}
use Rattle.std.specs.Prelude.{IsUtf8}
use Rattle.std.specs.Str.{IsCharBoundary}
use Rattle.std.specs.List.{slice_split, onto_first, before_first, after_first, position_or_len}
use Rattle.std.proofs.lemmas.Str.{IsUtf8-drop, IsCharBoundary-after_ascii}
use Rattle.std.proofs.lemmas.Str.{IsCharBoundary-before_ascii, IsCharBoundary-end}
use Rattle.std.proofs.lemmas.Str.{IsCharBoundary-from_drop}
use Rattle.std.proofs.lemmas.List.Quantifiers.{position-Some}
use Rattle.std.proofs.lemmas.List.Sums.{prefix_len-le-length}
use Rattle.fault_script.specs.Words.{is_space, has_bytes, words, without_spaces, behind_word}

one_more : (n : ℕ) → 1 + n ≡ suc n
one_more n = omega arith

two_more : (n : ℕ) → 1 + n + 1 ≡ suc (n + 1)
two_more n = omega arith

-- how a list is cut at its first element that passes
data Cuts (p : ℕ → Bool) (xs : List ℕ) : Type 0 where
  cut : slice_split p xs ≡ before_first p xs ∷ slice_split p (after_first p xs) → Cuts p xs
  whole : slice_split p xs ≡ before_first p xs ∷ [] → after_first p xs ≡ [] → Cuts p xs

before_more : (p : ℕ → Bool) (x : ℕ) (xs : List ℕ) → p x ≡ false → before_first p (x ∷ xs) ≡ x ∷ before_first p xs
before_more p x xs e =
    ap (λ (b : Bool). take (cond (not b) (1 + position_or_len p xs) 0) (x ∷ xs)) e
    ∙ ap (λ (k : ℕ). take k (x ∷ xs)) (one_more (position_or_len p xs))

after_more : (p : ℕ → Bool) (x : ℕ) (xs : List ℕ) → p x ≡ false → after_first p (x ∷ xs) ≡ after_first p xs
after_more p x xs e =
    ap (λ (b : Bool). drop (cond (not b) (1 + position_or_len p xs) 0 + 1) (x ∷ xs)) e
    ∙ ap (λ (k : ℕ). drop k (x ∷ xs)) (two_more (position_or_len p xs))

before_here : (p : ℕ → Bool) (x : ℕ) (xs : List ℕ) → p x ≡ true → before_first p (x ∷ xs) ≡ []
before_here p x xs e = ap (λ (b : Bool). take (cond (not b) (1 + position_or_len p xs) 0) (x ∷ xs)) e

after_here : (p : ℕ → Bool) (x : ℕ) (xs : List ℕ) → p x ≡ true → after_first p (x ∷ xs) ≡ xs
after_here p x xs e = ap (λ (b : Bool). drop (cond (not b) (1 + position_or_len p xs) 0 + 1) (x ∷ xs)) e

split_here : (p : ℕ → Bool) (x : ℕ) (xs : List ℕ) → p x ≡ true → slice_split p (x ∷ xs) ≡ [] ∷ slice_split p xs
split_here p x xs e = ap (λ (b : Bool). cond b ([] ∷ slice_split p xs) (onto_first x (slice_split p xs))) e

split_more : (p : ℕ → Bool) (x : ℕ) (xs : List ℕ) → p x ≡ false → slice_split p (x ∷ xs) ≡ onto_first x (slice_split p xs)
split_more p x xs e = ap (λ (b : Bool). cond b ([] ∷ slice_split p xs) (onto_first x (slice_split p xs))) e

cuts_more : (p : ℕ → Bool) (x : ℕ) (xs : List ℕ) → p x ≡ false → Cuts p xs → Cuts p (x ∷ xs)
cuts_more p x xs e (cut h) =
    cut (split_more p x xs e ∙ ap (onto_first x) h ∙ λ i. (sym (before_more p x xs e) i) ∷ slice_split p (sym (after_more p x xs e) i))
cuts_more p x xs e (whole h none) =
    whole (split_more p x xs e ∙ ap (onto_first x) h ∙ λ i. (sym (before_more p x xs e) i) ∷ []) (after_more p x xs e ∙ none)

cuts_by : (p : ℕ → Bool) (x : ℕ) (xs : List ℕ) (b : Bool) → p x ≡ b → Cuts p xs → Cuts p (x ∷ xs)
cuts_by p x xs true e h =
    cut (split_here p x xs e ∙ λ i. (sym (before_here p x xs e) i) ∷ slice_split p (sym (after_here p x xs e) i))
cuts_by p x xs false e h = cuts_more p x xs e h

cuts : (p : ℕ → Bool) (xs : List ℕ) → Cuts p xs
cuts p [] = whole refl refl
cuts p (x ∷ xs) = cuts_by p x xs (p x) refl (cuts p xs)

pub words-nil : words [] ≡ []
unfolding words
words-nil = refl

words_space : (b : ℕ) (xs : List ℕ) → is_space b ≡ true → words (b ∷ xs) ≡ words xs
unfolding words
words_space b xs e = ap (filter has_bytes) (split_here is_space b xs e)

first_by : (text : List ℕ) → has_bytes (before_first is_space text) ≡ true → Cuts is_space text → words text
    ≡ before_first is_space text ∷ words (after_first is_space text)
unfolding words
first_by text some (cut h) =
    ap (filter has_bytes) h ∙ ap (λ (b : Bool).
    cond b (before_first is_space text ∷ filter has_bytes (slice_split is_space (after_first is_space text)))
    (filter has_bytes (slice_split is_space (after_first is_space text)))) some
first_by text some (whole h none) =
    ap (filter has_bytes) h ∙ ap (λ (b : Bool). cond b (before_first is_space text ∷ []) []) some
    ∙ ap (λ (rest : List ℕ). before_first is_space text ∷ filter has_bytes (slice_split is_space rest)) (sym none)

-- a text that begins with a byte of a word
words_first : (b : ℕ) (bs : List ℕ) → is_space b ≡ false → words (b ∷ bs)
    ≡ before_first is_space (b ∷ bs) ∷ words (after_first is_space (b ∷ bs))
words_first b bs e = first_by (b ∷ bs) (ap has_bytes (before_more is_space b bs e)) (cuts is_space (b ∷ bs))

-- what is left without the spaces that a text begins with: nothing, or what begins with a word
data LeadingWord (text : List ℕ) : Type 0 where
  nothing : without_spaces text ≡ [] → words text ≡ [] → LeadingWord text
  something : (b : ℕ) (bs : List ℕ) → without_spaces text ≡ b ∷ bs → is_space b ≡ false → words text ≡ words (b ∷ bs) → LeadingWord text

skip_here : (b : ℕ) (bs : List ℕ) → is_space b ≡ false → without_spaces (b ∷ bs) ≡ b ∷ bs
skip_here b bs e = ap (λ (t : Bool). drop (cond (not (not t)) (1 + position_or_len (λ c. not (is_space c)) bs) 0) (b ∷ bs)) e

skip_more : (b : ℕ) (bs : List ℕ) → is_space b ≡ true → without_spaces (b ∷ bs) ≡ without_spaces bs
skip_more b bs e =
    ap (λ (t : Bool). drop (cond (not (not t)) (1 + position_or_len (λ c. not (is_space c)) bs) 0) (b ∷ bs)) e
    ∙ ap (λ (k : ℕ). drop k (b ∷ bs)) (one_more (position_or_len (λ c. not (is_space c)) bs))

begins_more : (b : ℕ) (bs : List ℕ) → is_space b ≡ true → LeadingWord bs → LeadingWord (b ∷ bs)
begins_more b bs e (nothing left none) = nothing (skip_more b bs e ∙ left) (words_space b bs e ∙ none)
begins_more b bs e (something c cs left word same) = something c cs (skip_more b bs e ∙ left) word (words_space b bs e ∙ same)

begins_by : (b : ℕ) (bs : List ℕ) (t : Bool) → is_space b ≡ t → LeadingWord bs → LeadingWord (b ∷ bs)
begins_by b bs true e h = begins_more b bs e h
begins_by b bs false e h = something b bs (skip_here b bs e) e refl

begins : (text : List ℕ) → LeadingWord text
begins [] = nothing refl words-nil
begins (b ∷ bs) = begins_by b bs (is_space b) refl (begins bs)

none_by : (text : List ℕ) → length (without_spaces text) ≡ 0 → LeadingWord text → words text ≡ []
none_by text e (nothing left none) = none
none_by text e (something b bs left word same) = absurd (omega (arith, ap length left))

pub words-none : (text : List ℕ) → length (without_spaces text) ≡ 0 → words text ≡ []
words-none text e = none_by text e (begins text)

some_by : (text : List ℕ) → 0 < length (without_spaces text) → LeadingWord text → words text
    ≡ before_first is_space (without_spaces text) ∷ words (after_first is_space (without_spaces text))
some_by text some (nothing left none) = absurd (omega (arith, ap length left))
some_by text some (something b bs left word same) =
    let P : List ℕ → Type 0 = λ t. words text ≡ before_first is_space t ∷ words (after_first is_space t) in
    subst P (sym left) (same ∙ words_first b bs word)

pub words-some : (text : List ℕ) → 0 < length (without_spaces text) → words text
    ≡ before_first is_space (without_spaces text) ∷ words (after_first is_space (without_spaces text))
words-some text some = some_by text some (begins text)

either_space : (x y : Bool) (b : ℕ) → b == 32 ≡ x → b == 9 ≡ y → (x || y) ≡ true → b < 128
either_space true y b p q e = omega (arith, eqb-true b 32 p)
either_space false true b p q e = omega (arith, eqb-true b 9 q)
either_space false false b p q e = absurd (cc)

space_small : (b : ℕ) → is_space b ≡ true → b < 128
space_small b e = either_space (b == 32) (b == 9) b refl refl e

tail_text : (b : ℕ) (bs : List ℕ) → b < 128 → IsUtf8 (b ∷ bs) → IsUtf8 bs
tail_text b bs small text = IsUtf8-drop (b ∷ bs) 1 text (IsCharBoundary-after_ascii (b ∷ bs) 0 text (omega arith) small)

skip_text_by : (b : ℕ) (bs : List ℕ) (t : Bool) → is_space b ≡ t → IsUtf8 (b ∷ bs) → (IsUtf8 bs → IsUtf8 (without_spaces bs))
    → IsUtf8 (without_spaces (b ∷ bs))
skip_text_by b bs true e text more = let P : List ℕ → Type 0 = λ xs. IsUtf8 xs in
    subst P (sym (skip_more b bs e)) (more (tail_text b bs (space_small b e) text))
skip_text_by b bs false e text more = let P : List ℕ → Type 0 = λ xs. IsUtf8 xs in subst P (sym (skip_here b bs e)) text

skip_text : (text : List ℕ) → IsUtf8 text → IsUtf8 (without_spaces text)
skip_text [] h = h
skip_text (b ∷ bs) h = skip_text_by b bs (is_space b) refl h (skip_text bs)

-- a text may be cut after the spaces that it begins with
first_boundary : (text : List ℕ) (n : ℕ) (b : Bool) → IsCharBoundary text n
    → IsCharBoundary text (unwrap_or (cond b (Some n) None) (length text))
first_boundary text n true h = h
first_boundary text n false h = IsCharBoundary-end text

pub start-boundary : (text : List ℕ) (found : Option ℕ) (start : ℕ) → IsUtf8 text → found ≡ position (λ b. not (is_space b)) text → start
    ≡ unwrap_or found (length text) → IsCharBoundary text start
start-boundary text found start h is e =
    let n = position_or_len (λ b. not (is_space b)) text in
    let at : IsCharBoundary text n =
    IsCharBoundary-from_drop text n (prefix_len-le-length (λ b. not (not (is_space b))) text) (skip_text text h) in
    let P : ℕ → Type 0 = λ k. IsCharBoundary text k in
    subst P (sym (e ∙ ap (λ o. unwrap_or o (length text)) is)) (first_boundary text n (nat_lt n (length text)) at)

-- and before a space, and after it
pub space-boundary : (text : List ℕ) (n : ℕ) → position is_space text ≡ Some n → IsCharBoundary text n
space-boundary text n e = let at = position-Some is_space text n 0 e in
    IsCharBoundary-before_ascii text n at.0 (space_small (get_or text n 0) at.1)

pub behind-boundary : (text : List ℕ) (n : ℕ) → IsUtf8 text → position is_space text ≡ Some n → IsCharBoundary text (n + 1)
behind-boundary text n h e = let at = position-Some is_space text n 0 e in
    IsCharBoundary-after_ascii text n h at.0 (space_small (get_or text n 0) at.1)

behind_by : (text word : List ℕ) (others : List (List ℕ)) → words text ≡ word ∷ others → LeadingWord text → words (behind_word text)
    ≡ others
unfolding behind_word
behind_by text word others e (nothing left none) = absurd (cc)
behind_by text word others e (something b bs left first same) =
    let some : words text ≡ before_first is_space (without_spaces text) ∷ words (after_first is_space (without_spaces text)) =
    some_by text (omega (arith, ap length left)) (something b bs left first same) in
    cc

-- after the first word stand the other words
pub words-behind : (text word : List ℕ) (others : List (List ℕ)) → words text ≡ word ∷ others → words (behind_word text) ≡ others
words-behind text word others e = behind_by text word others e (begins text)
