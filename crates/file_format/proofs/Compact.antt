-- Compact texts of values without floats: they read back, they are UTF-8, no end of a line stands in them.
use Rattle.std.proofs.Common.{◌≡◌, ◌≢◌, ◌<◌, ◌≤◌, ◌+◌, ◌*◌, ◌%◌, ◌^◌, ℕ, zero, suc, List, [], ◌∷◌}
use Rattle.std.proofs.Common.{◌++◌, Bool, true, false, cond, ◌&&◌, ◌==◌, nat_lt, not, length}
use Rattle.std.proofs.Common.{get_or, Some, Option, decimal, IsUtf8, option_and_then, refl, sym, ap}
use Rattle.std.proofs.Common.{◌∙◌, subst, inl, inr, arith, append-nil, length-append}
use Rattle.std.specs.Prelude.{⊤}
use Rattle.std.proofs.lemmas.Bool.{and_parts, and_from, cases_lt, cases_eq, ne_eqb}
use Rattle.std.proofs.lemmas.Fmt.{decimal_by_steps, length-decimal-le, IsAscii-decimal}
use Rattle.std.proofs.lemmas.Str.{IsUtf8-append, IsUtf8-from_ascii}
use Rattle.json.specs.Lex.{tokens}
use Rattle.json.specs.Json as json
use Rattle.json.specs.Tree as tree
use Rattle.json.specs.Print.{escape, escape_byte, escape_letter, quoted}
use Rattle.json.specs.Token.{Token}
use Rattle.json.proofs.Printed.Decimals.{IsNumber-decimal}
use Rattle.json.proofs.Printed.Tokens.{tokens-print}
use Rattle.json.proofs.Printed.Trees.{value-json_tokens, ArePrintable-json_tokens}
use Rattle.json.proofs.Printed.Strings.{escape_byte_plain}
use Rattle.json.proofs.Printed.Utf8.{IsUtf8-are_ascii, IsUtf8-quoted, IsUtf8-boolean}
use Rattle.serde_json.specs.Data.{Num, unsigned, negative, float, Data, null, boolean, number}
use Rattle.serde_json.specs.Data.{string, array, object, Items, no_items, item, Members, no_members}
use Rattle.serde_json.specs.Data.{member}
use Rattle.serde_json.specs.Read.{of_json, read, max_depth}
use Rattle.serde_json.specs.Written.{outline, items_outline, members_outline, compact_text, items_text, members_text, comma_if}
use Rattle.serde_json.proofs.Texts.{print-outline}
use Rattle.counted_devices.specs.Cuts.{HasNoEnd}

-- a value whose texts are UTF-8 and whose numbers have 64 bits and no sign
abbrev pub IsPlainNumber : Num → Type 0
IsPlainNumber (unsigned n) = n < 2 ^ 64
IsPlainNumber (negative z) = ⊥
IsPlainNumber (float x) = ⊥

abbrev mutual
  pub IsSimple : Data → Type 0
  IsSimple null = ⊤
  IsSimple (boolean b) = ⊤
  IsSimple (number n) = IsPlainNumber n
  IsSimple (string s) = IsUtf8 s
  IsSimple (array ds) = AreSimple ds
  IsSimple (object ms) = HaveSimple ms

  pub AreSimple : Items → Type 0
  AreSimple no_items = ⊤
  AreSimple (item d ds) = IsSimple d × AreSimple ds

  pub HaveSimple : Members → Type 0
  HaveSimple no_members = ⊤
  HaveSimple (member k d ms) = IsUtf8 k × IsSimple d × HaveSimple ms

-- ---- they read back

mutual
  numbers : (d : Data) → IsSimple d → tree.HasNumbers (outline d)
  numbers null h = tt
  numbers (boolean b) h = tt
  numbers (number (unsigned n)) h = IsNumber-decimal n h
  numbers (number (negative z)) h = absurd h
  numbers (number (float x)) h = absurd h
  numbers (string s) h = tt
  numbers (array ds) h = items_numbers ds h
  numbers (object ms) h = members_numbers ms h

  items_numbers : (ds : Items) → AreSimple ds → tree.ItemsHaveNumbers (items_outline ds)
  items_numbers no_items h = tt
  items_numbers (item d ds) h = (numbers d h.0, items_numbers ds h.1)

  members_numbers : (ms : Members) → HaveSimple ms → tree.MembersHaveNumbers (members_outline ms)
  members_numbers no_members h = tt
  members_numbers (member k d ms) h = (numbers d h.1, members_numbers ms h.2)

pub read-compact_text : (d : Data) → IsSimple d → tree.depth (outline d) ≤ max_depth → of_json (outline d) ≡ Some d
    → read (compact_text d) ≡ Some d
read-compact_text d simple shallow back =
    let ts = tree.json_tokens (outline d) in
    let told : tokens (compact_text d) ≡ ts ++ [] = ap tokens (sym (print-outline d))
    ∙ tokens-print ts (ArePrintable-json_tokens (outline d) (numbers d simple)) ∙ sym (append-nil ts) in
    ap (λ (o : Option (json.Json × List Token)). option_and_then of_json (option_and_then (λ p. json.if_last p.0 p.1) o))
    (ap (json.value max_depth) told ∙ value-json_tokens (outline d) max_depth [] shallow) ∙ back

-- ---- they are UTF-8

digits_utf8 : (n : ℕ) → n < 2 ^ 64 → IsUtf8 (decimal n)
digits_utf8 n h = IsUtf8-from_ascii (decimal n) (IsAscii-decimal n h)

comma_utf8 : (later : Bool) → IsUtf8 (comma_if later)
comma_utf8 true = IsUtf8-are_ascii (44 ∷ []) refl
comma_utf8 false = IsUtf8-are_ascii [] refl

mutual
  pub IsUtf8-compact_text : (d : Data) → IsSimple d → IsUtf8 (compact_text d)
  IsUtf8-compact_text null h = IsUtf8-are_ascii (compact_text null) refl
  IsUtf8-compact_text (boolean b) h = IsUtf8-boolean b
  IsUtf8-compact_text (number (unsigned n)) h = digits_utf8 n h
  IsUtf8-compact_text (number (negative z)) h = absurd h
  IsUtf8-compact_text (number (float x)) h = absurd h
  IsUtf8-compact_text (string s) h = IsUtf8-quoted s h
  IsUtf8-compact_text (array ds) h = IsUtf8-append (91 ∷ []) (items_text false ds) (IsUtf8-are_ascii (91 ∷ []) refl) (items_utf8 false ds h)
  IsUtf8-compact_text (object ms) h =
      IsUtf8-append (123 ∷ []) (members_text false ms) (IsUtf8-are_ascii (123 ∷ []) refl) (members_utf8 false ms h)

  items_utf8 : (later : Bool) (ds : Items) → AreSimple ds → IsUtf8 (items_text later ds)
  items_utf8 later no_items h = IsUtf8-are_ascii (93 ∷ []) refl
  items_utf8 later (item d ds) h =
      IsUtf8-append (comma_if later) (compact_text d ++ items_text true ds) (comma_utf8 later)
      (IsUtf8-append (compact_text d) (items_text true ds) (IsUtf8-compact_text d h.0) (items_utf8 true ds h.1))

  members_utf8 : (later : Bool) (ms : Members) → HaveSimple ms → IsUtf8 (members_text later ms)
  members_utf8 later no_members h = IsUtf8-are_ascii (125 ∷ []) refl
  members_utf8 later (member k d ms) h =
      let rest = compact_text d ++ members_text true ms in
      IsUtf8-append (comma_if later) (quoted k ++ 58 ∷ rest) (comma_utf8 later)
      (IsUtf8-append (quoted k) (58 ∷ rest) (IsUtf8-quoted k h.0)
      (IsUtf8-append (58 ∷ []) rest (IsUtf8-are_ascii (58 ∷ []) refl)
      (IsUtf8-append (compact_text d) (members_text true ms) (IsUtf8-compact_text d h.1) (members_utf8 true ms h.2))))

-- ---- no end of a line stands in them

abbrev no_end : List ℕ → Bool
no_end [] = true
no_end (x ∷ xs) = not (x == 10) && no_end xs

no_end-append : (xs ys : List ℕ) → no_end xs ≡ true → no_end ys ≡ true → no_end (xs ++ ys) ≡ true
no_end-append [] ys h k = k
no_end-append (x ∷ xs) ys h k = let p = and_parts (not (x == 10)) (no_end xs) h in
    and_from (not (x == 10)) (no_end (xs ++ ys)) p.0 (no_end-append xs ys p.1 k)

unlike : (x : ℕ) → x ≢ 10 → no_end (x ∷ []) ≡ true
unlike x other = ap (λ (b : Bool). not b && true) (ne_eqb x 10 other)

like : (x : ℕ) → not (x == 10) ≡ true → x ≢ 10
like x h e = let same : not (10 == 10) ≡ true = subst (λ (y : ℕ). not (y == 10) ≡ true) e h in cc

HasNoEnd-no_end : (xs : List ℕ) → no_end xs ≡ true → HasNoEnd xs
HasNoEnd-no_end [] h = λ k d lt. absurd (omega arith)
HasNoEnd-no_end (x ∷ xs) h =
    let p = and_parts (not (x == 10)) (no_end xs) h in
    λ k d lt. at x xs k d lt (like x p.0) (HasNoEnd-no_end xs p.1)
  where
    at : (x : ℕ) (xs : List ℕ) (k d : ℕ) → k < length (x ∷ xs) → x ≢ 10 → HasNoEnd xs → get_or (x ∷ xs) k d ≢ 10
    at x xs zero d lt here more = here
    at x xs (suc k) d lt here more = more k d (omega arith)

-- bytes below 128 by looking at each, the others stand for themselves
abbrev no_ends_below : ℕ → Bool
no_ends_below zero = true
no_ends_below (suc n) = no_end (escape_byte n) && no_ends_below n

none_below : (n : ℕ) → no_ends_below n ≡ true → (x : ℕ) → x < n → no_end (escape_byte x) ≡ true
none_below zero e x h = absurd (omega arith)
none_below (suc n) e x h =
    let p = and_parts (no_end (escape_byte n)) (no_ends_below n) e in
    elim (cases_eq x n) [ inl same ↦ rw same p.0 | inr other ↦ none_below n p.1 x (omega arith) ]

below_128 : no_ends_below 128 ≡ true
unfolding escape_byte
below_128 = refl

byte_no_end : (x : ℕ) → no_end (escape_byte x) ≡ true
byte_no_end x = elim (cases_lt x 128) [
  | inl small ↦ none_below 128 below_128 x small
  | inr big ↦ rw (escape_byte_plain x (λ e. omega arith) (λ e. omega arith) (omega arith)) (unlike x (λ e. omega arith))
]

escape_no_end : (s : List ℕ) → no_end (escape s) ≡ true
escape_no_end [] = refl
escape_no_end (x ∷ s) = no_end-append (escape_byte x) (escape s) (byte_no_end x) (escape_no_end s)

quoted_no_end : (s : List ℕ) → no_end (quoted s) ≡ true
quoted_no_end s = no_end-append (escape s) (34 ∷ []) (escape_no_end s) refl

digits_no_end : (n : ℕ) → n < 2 ^ 64 → no_end (decimal n) ≡ true
digits_no_end n h = decimal_by_steps (λ m ds. no_end ds ≡ true) (λ m lt. unlike (48 + m) (λ e. omega arith))
    (λ m ds ge u. no_end-append ds ((48 + m % 10) ∷ []) u (unlike (48 + m % 10) (λ e. omega arith))) n h

comma_no_end : (later : Bool) → no_end (comma_if later) ≡ true
comma_no_end true = refl
comma_no_end false = refl

mutual
  text_no_end : (d : Data) → IsSimple d → no_end (compact_text d) ≡ true
  text_no_end null h = refl
  text_no_end (boolean true) h = refl
  text_no_end (boolean false) h = refl
  text_no_end (number (unsigned n)) h = digits_no_end n h
  text_no_end (number (negative z)) h = absurd h
  text_no_end (number (float x)) h = absurd h
  text_no_end (string s) h = quoted_no_end s
  text_no_end (array ds) h = items_no_end false ds h
  text_no_end (object ms) h = members_no_end false ms h

  items_no_end : (later : Bool) (ds : Items) → AreSimple ds → no_end (items_text later ds) ≡ true
  items_no_end later no_items h = refl
  items_no_end later (item d ds) h =
      no_end-append (comma_if later) (compact_text d ++ items_text true ds) (comma_no_end later)
      (no_end-append (compact_text d) (items_text true ds) (text_no_end d h.0) (items_no_end true ds h.1))

  members_no_end : (later : Bool) (ms : Members) → HaveSimple ms → no_end (members_text later ms) ≡ true
  members_no_end later no_members h = refl
  members_no_end later (member k d ms) h =
      let rest = compact_text d ++ members_text true ms in
      no_end-append (comma_if later) (quoted k ++ 58 ∷ rest) (comma_no_end later)
      (no_end-append (quoted k) (58 ∷ rest) (quoted_no_end k)
      (no_end-append (compact_text d) (members_text true ms) (text_no_end d h.1) (members_no_end true ms h.2)))

pub HasNoEnd-compact_text : (d : Data) → IsSimple d → HasNoEnd (compact_text d)
HasNoEnd-compact_text d h = HasNoEnd-no_end (compact_text d) (text_no_end d h)

-- ---- how long they are

one_of_three : (b c : Bool) (xs ys zs : List ℕ) → length xs ≤ 6 → length ys ≤ 6 → length zs ≤ 6 → length (cond b xs (cond c ys zs)) ≤ 6
one_of_three true c xs ys zs p q r = p
one_of_three false true xs ys zs p q r = q
one_of_three false false xs ys zs p q r = r

length-escape_byte : (x : ℕ) → length (escape_byte x) ≤ 6
unfolding escape_byte
length-escape_byte x = one_of_three (nat_lt 0 (escape_letter x)) (nat_lt x 32) _ _ (x ∷ []) (omega arith) (omega arith) (omega arith)

length-escape : (s : List ℕ) → length (escape s) ≤ 6 * length s
length-escape [] = omega arith
length-escape (x ∷ s) = omega (arith, length-append (escape_byte x) (escape s), length-escape_byte x, length-escape s)

pub length-quoted : (s : List ℕ) → length (quoted s) ≤ 6 * length s + 2
length-quoted s = omega (arith, length-append (escape s) (34 ∷ []), length-escape s)

pub length-digits : (n : ℕ) → n < 2 ^ 64 → length (decimal n) ≤ 20
length-digits n h = length-decimal-le 20 n (omega arith) (omega arith) h
